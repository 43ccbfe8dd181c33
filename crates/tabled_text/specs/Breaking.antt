-- The units of a line, which wrapping never breaks, breakings of lines and texts, and which of them
-- have the fewest lines. Lines and units are lists of characters.
use Rattle.std.specs.Prelude.{◌≡◌, ℕ, ◌<◌, ◌≤◌, Bool, List, chars, length, All, map, sum_by, true, false, ◌==◌, nat_le, [], ◌∷◌, ◌++◌, if◌then◌else◌}
use Rattle.std.specs.List.{flat_map, AllZip, join_with_byte, slice_split}
use Rattle.tabled_text.specs.Measure.{lines_of, columns_of, char_count}

pub record TextUnit : Type 0 where
  pub text : List ℕ
  pub width : ℕ

-- a character as a unit, as wide as its count
abbrev pub unit_of_char : ℕ → TextUnit
unit_of_char c = record { text = c ∷ []; width = char_count c }

abbrev pub space : TextUnit
space = record { text = 32 ∷ []; width = 1 }

-- the words of a line: its pieces between spaces, of which some may be empty
abbrev pub words_of : List ℕ → List (List ℕ)
words_of line = slice_split (λ c. c == 32) line

-- a word of at most n columns is one unit. A wider word is its characters, and an empty one no unit
abbrev pub units_of_word : ℕ → List ℕ → List TextUnit
units_of_word n [] = []
units_of_word n (c ∷ cs) =
    if nat_le (columns_of (c ∷ cs)) n then record { text = c ∷ cs; width = columns_of (c ∷ cs) } ∷ []
    else map unit_of_char (c ∷ cs)

-- the units of the words, with a space between every two words
abbrev pub units_of_words : ℕ → List (List ℕ) → List TextUnit
units_of_words n [] = []
units_of_words n (word ∷ []) = units_of_word n word
units_of_words n (word ∷ next ∷ words) = units_of_word n word ++ space ∷ units_of_words n (next ∷ words)

-- the units of a line for n columns: its words and spaces, or its characters
abbrev pub units : ℕ → Bool → List ℕ → List TextUnit
units n false line = map unit_of_char line
units n true line = units_of_words n (words_of line)

-- the total width of a list of units
abbrev pub width_of : List TextUnit → ℕ
width_of units = sum_by (λ unit. unit.width) units

-- the text of a list of units
abbrev pub text_of : List TextUnit → List ℕ
text_of units = flat_map (λ unit. unit.text) units

-- the groups are the units in order. No group is empty, except that a line without units is one
-- empty group
pub record IsGrouping (units : List TextUnit) (groups : List (List TextUnit)) : Type 0 where
  pub whole : flat_map (λ group. group) groups ≡ units
  pub some : 0 < length units → All (λ group. 0 < length group) groups
  pub none : length units ≡ 0 → length groups ≡ 1

-- a breaking of a line: each group is at most n columns wide
pub record IsBreaking (n : ℕ) (units : List TextUnit) (groups : List (List TextUnit)) : Type 0 where
  pub grouping : IsGrouping units groups
  pub fits : All (λ group. width_of group ≤ n) groups

-- a breaking of a text, given by its bytes: a breaking of each line
pub record IsBroken (n : ℕ) (words : Bool) (text : List ℕ) (broken : List (List (List TextUnit))) : Type 0 where
  pub columns : 0 < n
  pub each : AllZip (λ line groups. IsBreaking n (units n words line) groups) (lines_of (chars text)) broken

-- the number of groups in all lines
abbrev pub count_groups : List (List (List TextUnit)) → ℕ
count_groups broken = sum_by length broken

-- the text of a breaking: each group on a line of its own
abbrev pub text_of_breaking : List (List (List TextUnit)) → List ℕ
text_of_breaking broken = join_with_byte 10 (map (λ groups. join_with_byte 10 (map text_of groups)) broken)

-- each unit is at most n columns wide
abbrev pub EachUnitFits : ℕ → Bool → List ℕ → Type 0
EachUnitFits n words text = All (λ line. All (λ unit. unit.width ≤ n) (units n words line)) (lines_of (chars text))

-- no breaking of the text has fewer groups than `answer` has lines
abbrev pub HasFewestLines : ℕ → Bool → List ℕ → List ℕ → Type 0
HasFewestLines n words text answer =
    (broken : List (List (List TextUnit))) → IsBroken n words text broken → length (lines_of answer) ≤ count_groups broken

-- `answer` is the text of a breaking, with a line for each group, and no other breaking has fewer
-- groups
pub record IsLeastBreaking (n : ℕ) (words : Bool) (text answer : List ℕ) : Type 0 where
  pub broken : List (List (List TextUnit))
  pub is : IsBroken n words text broken
  pub answered : chars answer ≡ text_of_breaking broken
  pub count : length (lines_of answer) ≡ count_groups broken
  pub least : (other : List (List (List TextUnit))) → IsBroken n words text other → count_groups broken ≤ count_groups other
