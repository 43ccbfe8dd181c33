-- Texts that are narrowed to some columns, line by line. A text is the list of its bytes.
use Rattle.std.specs.Prelude.{◌≡◌, ℕ, ◌-◌, ◌<◌, ◌≤◌, Bool, true, false, List, [], ◌∷◌, ◌++◌, MatchBool, nat_lt}
use Rattle.std.specs.List.{AllZip, join_with_byte}
use Rattle.tabled_line.specs.Fill.{fill}
use Rattle.tabled_text.specs.Cut.{IsCut, NeedsFill}
use Rattle.tabled_text.specs.Measure.{line_columns, lines_of}
use Rattle.tabled_text.specs.WordWrap.{IsWordWrapped}

-- the mark of a text that is cut: `…`
abbrev pub mark : List ℕ
mark = 0xE2 ∷ 0x80 ∷ 0xA6 ∷ []

-- the most columns, up to n, to which a line can be cut between two characters
pub record IsWholeCut (n : ℕ) (line : List ℕ) (columns : ℕ) : Type 0 where
  pub within : columns ≤ n
  pub most : (more : ℕ) → columns < more → more ≤ n → NeedsFill more line

-- a line cut to n columns between two characters, spaces in the columns left, and the mark
pub record IsMarked (n : ℕ) (line shown : List ℕ) : Type 0 where
  pub columns : ℕ
  pub whole : IsWholeCut n line columns
  pub front : List ℕ
  pub cut : IsCut columns line front
  pub marked : shown ≡ front ++ (fill 32 (n - columns) ++ mark)

-- what becomes of a line that is wider than n columns: it is cut to one column less, for the mark,
-- or wrapped between words
abbrev pub IsNarrower : Bool → ℕ → List ℕ → List ℕ → Type 0
IsNarrower true n line shown = IsMarked (n - 1) line shown
IsNarrower false n line shown = IsWordWrapped n line shown

-- a line in n columns: it stays if it fits
abbrev pub IsNarrowedLine : Bool → ℕ → List ℕ → List ℕ → Type 0
IsNarrowedLine cuts n line shown = MatchBool (nat_lt n (line_columns line)) (IsNarrower cuts n line shown) (shown ≡ line)

-- a text in n columns: each of its lines
pub record IsNarrowedText (cuts : Bool) (n : ℕ) (text shown : List ℕ) : Type 0 where
  pub parts : List (List ℕ)
  pub each : AllZip (IsNarrowedLine cuts n) (lines_of text) parts
  pub joined : shown ≡ join_with_byte 10 parts
