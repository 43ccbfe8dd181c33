-- Wrapping a text to n columns, defined by a condition on adjacent groups of units.
use Rattle.std.specs.Prelude.{◌≡◌, ℕ, ◌+◌, ◌-◌, ◌<◌, ◌≤◌, Bool, ◌==◌, nat_le, List, [], ◌∷◌, ◌++◌, chars, map, replicate, if◌then◌else◌, ⊤, MatchBool}
use Rattle.std.specs.List.{AllZip, join_with_byte}
use Rattle.std.specs.Str.{IsUtf8}
use Rattle.tabled_text.specs.Measure.{lines_of}
use Rattle.tabled_text.specs.Breaking.{TextUnit, units, width_of}
use Rattle.tabled_text.specs.Breaking.{IsGrouping, EachUnitFits}

-- ---- the fullest breaking

-- the columns that a unit needs: its width, or 1 if it is wider than a line, since U+FFFD replaces
-- it in the columns left
abbrev pub needed : ℕ → TextUnit → ℕ
needed n unit = if nat_le unit.width n then unit.width else 1

-- each unit of a group has the columns that it needs after the units before it. A unit wider than a
-- line is thus the last
abbrev pub Fits : ℕ → ℕ → List TextUnit → Type 0
Fits n used [] = ⊤
Fits n used (unit ∷ group) = (used + needed n unit ≤ n) × Fits n (used + unit.width) group

-- a group would pass n columns with the first unit of the next group
abbrev pub IsFull : ℕ → List TextUnit → List TextUnit → Type 0
IsFull n group [] = ⊤
IsFull n group (unit ∷ next) = n < width_of group + needed n unit

-- each group fits, and each except the last is full
abbrev pub AreFullest : ℕ → List (List TextUnit) → Type 0
AreFullest n [] = ⊤
AreFullest n (group ∷ []) = Fits n 0 group
AreFullest n (group ∷ next ∷ groups) = Fits n 0 group × IsFull n group next × AreFullest n (next ∷ groups)

pub record IsFullest (n : ℕ) (units : List TextUnit) (groups : List (List TextUnit)) : Type 0 where
  pub grouping : IsGrouping units groups
  pub fullest : AreFullest n groups

-- ---- its text

-- what is written of a unit if `used` columns of its line are used: U+FFFD in the columns left if
-- it is wider than a line
abbrev pub unit_or_filler : ℕ → ℕ → TextUnit → List ℕ
unit_or_filler n used unit = if nat_le unit.width n then unit.text else replicate (n - used) 0xFFFD

abbrev pub text_from : ℕ → ℕ → List TextUnit → List ℕ
text_from n used [] = []
text_from n used (unit ∷ group) = unit_or_filler n used unit ++ text_from n (used + unit.width) group

-- the text of a line: each group on a line of its own
abbrev pub text_of_groups : ℕ → List (List TextUnit) → List ℕ
text_of_groups n groups = join_with_byte 10 (map (text_from n 0) groups)

-- the text of all lines
abbrev pub text_of_lines : ℕ → List (List (List TextUnit)) → List ℕ
text_of_lines n broken = join_with_byte 10 (map (text_of_groups n) broken)

-- the characters of `answer` are the text of the fullest breaking of each line
pub record IsFullestText (n : ℕ) (words : Bool) (text answer : List ℕ) : Type 0 where
  pub broken : List (List (List TextUnit))
  pub fullest : AllZip (λ line groups. IsFullest n (units n words line) groups) (lines_of text) broken
  pub answered : answer ≡ text_of_lines n broken

-- the wrapped text, by bytes: the text of the fullest breaking, or empty for n = 0
pub record IsWrapped (n : ℕ) (words : Bool) (text answer : List ℕ) : Type 0 where
  pub utf8 : IsUtf8 answer
  pub wrapped : MatchBool (n == 0) (answer ≡ []) (IsFullestText n words (chars text) (chars answer))

-- the wrapped text, if n is at least 1 and each unit fits
pub record IsFittingWrapping (n : ℕ) (words : Bool) (text answer : List ℕ) : Type 0 where
  pub columns : 0 < n
  pub units : EachUnitFits n words text
  pub wrapped : IsWrapped n words text answer
