-- Of private steps: no public call promises this, except `pending` as a part of `wrapped_text`.
-- What the functions that wrap and compare do, unit after unit and without looking ahead, and what
-- is still expected of a text that is compared piece by piece.
use Rattle.std.specs.Prelude.{◌≡◌, ℕ, ◌+◌, ◌<◌, ◌≤◌, Bool, true, false, ◌||◌, nat_le, List, [], ◌∷◌, ◌++◌, chars, encode_utf8_all, length, take, drop, Option, Some, None, if◌then◌else◌, ◌↔◌}
use Rattle.std.specs.Borrow.{Bor}
use Rattle.std.specs.List.{list_all}
use Rattle.std.specs.Str.{IsUtf8}
use Rattle.tabled_text.specs.Letters.{is_letter_byte}
use Rattle.tabled_text.specs.Measure.{columns_of, count_of, lines_of, text_columns}
use Rattle.tabled_text.specs.OldText.{all_chars_fit}
use Rattle.tabled_text.specs.Breaking.{TextUnit, units, words_of}
use Rattle.tabled_text.specs.Wrapping.{needed, unit_or_filler}
use Rattle.std.proofs.Common.{append_assoc, sym, ap, ◌∙◌}

-- the words of the rest after a space, if there is one
abbrev pub words_in : Option (Bor (List ℕ)) → List (List ℕ)
words_in (Some text) = words_of (chars text.now)
words_in None = []

-- the column at which a unit of `needed` columns begins, and what is written before it
abbrev pub begin_at : ℕ → ℕ → ℕ → ℕ
begin_at n used needed = if nat_le (used + needed) n then used else 0

abbrev pub begin_text : ℕ → ℕ → ℕ → List ℕ
begin_text n used needed = if nat_le (used + needed) n then [] else 10 ∷ []

-- what a unit writes, and the columns then used in its line
abbrev pub append_text : ℕ → ℕ → TextUnit → List ℕ
append_text n used unit = begin_text n used (needed n unit) ++ unit_or_filler n (begin_at n used (needed n unit)) unit

abbrev pub append_used : ℕ → ℕ → TextUnit → ℕ
append_used n used unit = begin_at n used (needed n unit) + unit.width

-- what a list of units writes, and the columns then used in the last line
abbrev pub append_all : ℕ → ℕ → List TextUnit → List ℕ
append_all n used [] = []
append_all n used (unit ∷ units) = append_text n used unit ++ append_all n (append_used n used unit) units

abbrev pub used_after : ℕ → ℕ → List TextUnit → ℕ
used_after n used [] = used
used_after n used (unit ∷ units) = used_after n (append_used n used unit) units

-- the bytes that a line, given by its bytes, writes
abbrev pub written_line : ℕ → Bool → List ℕ → List ℕ
written_line n words line = encode_utf8_all (append_all n 0 (units n words (chars line)))

-- what the remaining lines write. `begun` says that a line was written before
abbrev pub pending : ℕ → Bool → Bool → List (List ℕ) → List ℕ
pending n words begun [] = []
pending n words begun (line ∷ lines) =
    (if begun then 10 ∷ [] else []) ++ (append_all n 0 (units n words line) ++ pending n words true lines)

-- whether each unit of a word, and of a line, is at most n columns wide
abbrev pub fits_word : ℕ → List ℕ → Bool
fits_word n word = nat_le (columns_of word) n || all_chars_fit n word

abbrev pub fits_line : ℕ → Bool → List ℕ → Bool
fits_line n false line = all_chars_fit n line
fits_line n true line = list_all (fits_word n) (words_of line)

-- the first k bytes of printable ASCII are the first line of more
pub record BreaksAt (n : ℕ) (words : Bool) (line : List ℕ) (k : ℕ) : Type 0 where
  pub some : 0 < k
  pub end : k ≤ length line
  pub rest : append_all n 0 (units n words line) ≡ take k line ++ 10 ∷ append_all n 0 (units n words (drop k line))

-- a text begins with `piece`, whose characters count `columns`, at most n, and `rest` follows it
pub record IsPiece (n : ℕ) (text piece : List ℕ) (columns : ℕ) (rest : List ℕ) : Type 0 where
  pub parts : text ≡ piece ++ rest
  pub utf8 : IsUtf8 piece
  pub rest_utf8 : IsUtf8 rest
  pub counted : columns ≡ count_of (chars piece)
  pub fits : columns ≤ n

-- `front` is the first line of letters that are broken to n columns and takes `columns`, and `rest`
-- follows it
pub record IsLetterLine (n : ℕ) (text front : List ℕ) (columns : ℕ) (rest : List ℕ) : Type 0 where
  pub takes : text_columns front ≡ columns
  pub one : length (lines_of front) ≡ 1
  pub last : length rest ≡ 0 → written_line n false text ≡ front
  pub more : 0 < length rest → written_line n false text ≡ front ++ 10 ∷ written_line n false rest
  pub shorter : 0 < length rest → length rest < length text
  pub letters : list_all is_letter_byte rest ≡ true
  pub utf8 : IsUtf8 rest

-- `x` was matched: z is expected afterwards exactly if x and then z were expected before
abbrev pub Expects : Option (List ℕ) → List ℕ → Option (List ℕ) → Type 0
Expects s x t = (z : List ℕ) → (s ≡ Some (x ++ z)) ↔ (t ≡ Some z)

pub Expects-nothing : (s : Option (List ℕ)) → Expects s [] s
Expects-nothing s = λ z. (λ h. h, λ h. h)

pub Expects-more : (s t u : Option (List ℕ)) (x y : List ℕ) → Expects s x t → Expects t y u → Expects s (x ++ y) u
Expects-more s t u x y h k = λ z.
    let first = h (y ++ z) in
    let next = k z in
    let e = append_assoc x y z in
    (λ a. next.0 (first.0 (a ∙ ap (λ l. Some l) e)), λ b. first.1 (next.1 b) ∙ ap (λ l. Some l) (sym e))
