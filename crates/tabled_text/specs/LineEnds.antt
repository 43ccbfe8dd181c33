-- Texts that are wrapped, as a function of the text, and what ends the lines of a text that is
-- wrapped without a copy.
use Rattle.std.specs.Prelude.{◌≡◌, ℕ, ◌==◌, Bool, true, false, List, [], ◌∷◌, chars, encode_utf8_all, length, Option, Some, None, IfSome, nat_lt, ◌&&◌, if◌then◌else◌}
use Rattle.std.specs.Borrow.{Bor}
use Rattle.std.specs.Int.{is_in_range}
use Rattle.std.specs.List.{list_all}
use Rattle.tabled_text.specs.Letters.{is_letter_byte}
use Rattle.tabled_text.specs.Measure.{line_columns, lines_of, text_columns}
use Rattle.tabled_text.specs.Walk.{pending}
use Rattle.tabled_text.specs.declared.line_ends.LineEnds.{LineEnds}
use Rattle.tabled_text.specs.declared.line_ends.LineEnds.TheVariants.{Feeds, Bytes, Columns}

-- the wrapped text: what the units of its lines write, one after another, or empty for n = 0
abbrev pub wrapped_text : ℕ → Bool → List ℕ → List ℕ
wrapped_text n words text = if n == 0 then [] else encode_utf8_all (pending n words false (lines_of (chars text)))

-- the text with a line feed wherever one of its lines ends
abbrev pub ended_text : LineEnds → List ℕ → List ℕ
ended_text Feeds text = text
ended_text (Bytes n) text = wrapped_text n false text
ended_text (Columns n) text = wrapped_text n false text

-- whether lines may end so in a text: printable ASCII after n bytes, and letters after n columns
abbrev pub can_end : LineEnds → List ℕ → Bool
can_end Feeds text = true
can_end (Bytes n) text = nat_lt 0 n && list_all (is_in_range 0x20 0x7E) text
can_end (Columns n) text = nat_lt 0 n && list_all is_letter_byte text

abbrev pub AreEnds : LineEnds → List ℕ → Type 0
AreEnds ends text = can_end ends text ≡ true

-- the lines of the rest after a line, if there is one
abbrev pub ended_lines : LineEnds → Option (Bor (List ℕ)) → List (List ℕ)
ended_lines ends None = []
ended_lines ends (Some text) = lines_of (ended_text ends text.now)

-- `line` is the first line of a text and takes `columns`, and the other lines are in the rest
pub record IsFirstLine (ends : LineEnds) (text line : List ℕ) (columns : ℕ) (rest : Option (Bor (List ℕ))) : Type 0 where
  pub lines : lines_of (ended_text ends text) ≡ line ∷ ended_lines ends rest
  pub takes : columns ≡ line_columns line
  pub ends_are : IfSome rest (λ rest. AreEnds ends rest.now)

-- the wrapped text takes these columns and lines. If it is one line, it is the text itself; else
-- the text is letters, and the lines of the wrapped text end after n columns
pub record IsWrappedInPlace (n : ℕ) (words : Bool) (text : List ℕ) (columns lines : ℕ) : Type 0 where
  pub columns_are : columns ≡ text_columns (wrapped_text n words text)
  pub lines_are : lines ≡ length (lines_of (wrapped_text n words text))
  pub whole : lines ≡ 1 → wrapped_text n words text ≡ text
  pub letters : (lines ≡ 1 → ⊥) → AreEnds (Columns n) text
  pub broken : (lines ≡ 1 → ⊥) → wrapped_text n words text ≡ wrapped_text n false text
