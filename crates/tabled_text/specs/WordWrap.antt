-- Word wrap: wrapping with words kept whole, where the space at which a line is broken is dropped.
-- Lines and units are lists of characters, texts and results lists of bytes.
use Rattle.std.specs.Prelude.{◌≡◌, ◌⊎◌, ℕ, ◌+◌, ◌<◌, ◌≤◌, ◌==◌, nat_le, List, [], ◌∷◌, ◌++◌, All, MatchBool, chars, if◌then◌else◌, length, map, sum_by, ⊤}
use Rattle.std.specs.List.{AllZip, flat_map, join_with_byte}
use Rattle.std.specs.Str.{IsUtf8}
use Rattle.tabled_text.specs.Breaking.{TextUnit, space, text_of, unit_of_char, width_of, words_of}
use Rattle.tabled_text.specs.Measure.{columns_of, lines_of}
use Rattle.tabled_text.specs.Wrapping.{Fits, needed, text_of_lines}

-- ---- the units of a line

-- a unit, and what is before it: a space if it begins a word other than the first, else nothing
pub record SpacedUnit : Type 0 where
  pub before : List TextUnit
  pub unit : TextUnit

-- a word of at most n columns, which may be empty, is one unit. A wider word is its characters
abbrev pub word_units : ℕ → List ℕ → List TextUnit
word_units n word = if nat_le (columns_of word) n then record { text = word; width = columns_of word } ∷ [] else map unit_of_char word

-- the units of a word, with something before the first
abbrev pub spaced_word : List TextUnit → List TextUnit → List SpacedUnit
spaced_word before [] = []
spaced_word before (unit ∷ units) = record { before = before; unit = unit } ∷ spaced_word [] units

-- the units of words that each have a space before them
abbrev pub further_units : ℕ → List (List ℕ) → List SpacedUnit
further_units n words = flat_map (λ word. spaced_word (space ∷ []) (word_units n word)) words

-- the units of words that have a space between every two
abbrev pub spaced_units : ℕ → List (List ℕ) → List SpacedUnit
spaced_units n [] = []
spaced_units n (word ∷ words) = spaced_word [] (word_units n word) ++ further_units n words

-- units with what is before them
abbrev pub with_spaces : List SpacedUnit → List TextUnit
with_spaces group = flat_map (λ u. u.before ++ u.unit ∷ []) group

-- a group of units on a line of its own: what is before the first unit is dropped
abbrev pub on_line : List SpacedUnit → List TextUnit
on_line [] = []
on_line (u ∷ group) = u.unit ∷ with_spaces group

-- ---- breakings

-- a breaking of a line: the groups are its units in order, none is empty, and each is at most n
-- columns wide on a line of its own
pub record IsWordBreaking (n : ℕ) (line : List ℕ) (groups : List (List SpacedUnit)) : Type 0 where
  pub whole : flat_map (λ group. group) groups ≡ spaced_units n (words_of line)
  pub some : All (λ group. 0 < length group) groups
  pub fits : All (λ group. width_of (on_line group) ≤ n) groups

-- a breaking of a text: a breaking of each line
pub record IsWordBroken (n : ℕ) (text : List ℕ) (broken : List (List (List SpacedUnit))) : Type 0 where
  pub columns : 0 < n
  pub each : AllZip (λ line groups. IsWordBreaking n line groups) (lines_of (chars text)) broken

-- no breaking of the text has fewer groups than `answer` has lines
abbrev pub HasFewestWordLines : ℕ → List ℕ → List ℕ → Type 0
HasFewestWordLines n text answer =
    (broken : List (List (List SpacedUnit))) → IsWordBroken n text broken → length (lines_of answer) ≤ sum_by length broken

-- the text of a breaking: each group on a line of its own
abbrev pub text_of_word_breaking : List (List (List SpacedUnit)) → List ℕ
text_of_word_breaking broken = join_with_byte 10 (map (λ groups. join_with_byte 10 (map (λ group. text_of (on_line group)) groups)) broken)

-- `answer` is the text of a breaking, with a line for each group, and no other breaking has fewer
-- groups
pub record IsLeastWordBreaking (n : ℕ) (text answer : List ℕ) : Type 0 where
  pub broken : List (List (List SpacedUnit))
  pub is : IsWordBroken n text broken
  pub answered : chars answer ≡ text_of_word_breaking broken
  pub count : length (lines_of answer) ≡ sum_by length broken
  pub least : (other : List (List (List SpacedUnit))) → IsWordBroken n text other → sum_by length broken ≤ sum_by length other

-- ---- the fullest breaking

-- a group would pass n columns with the first unit of the next group and what is before that
abbrev pub IsFullBefore : ℕ → List SpacedUnit → List SpacedUnit → Type 0
IsFullBefore n group [] = ⊤
IsFullBefore n group (u ∷ next) = n < width_of (on_line group) + (width_of u.before + needed n u.unit)

-- each group fits, and each except the last is full
abbrev pub AreFullOfWords : ℕ → List (List SpacedUnit) → Type 0
AreFullOfWords n [] = ⊤
AreFullOfWords n (group ∷ []) = Fits n 0 (on_line group)
AreFullOfWords n (group ∷ next ∷ groups) = Fits n 0 (on_line group) × IsFullBefore n group next × AreFullOfWords n (next ∷ groups)

pub record IsFullOfWords (n : ℕ) (line : List ℕ) (groups : List (List SpacedUnit)) : Type 0 where
  pub whole : flat_map (λ group. group) groups ≡ spaced_units n (words_of line)
  pub some : All (λ group. 0 < length group) groups
  pub fullest : AreFullOfWords n groups

-- the characters of `answer` are the text of the fullest breaking of each line
pub record IsWordWrappedText (n : ℕ) (text answer : List ℕ) : Type 0 where
  pub broken : List (List (List SpacedUnit))
  pub fullest : AllZip (λ line groups. IsFullOfWords n line groups) (lines_of text) broken
  pub answered : answer ≡ text_of_lines n (map (map on_line) broken)

-- the wrapped text: the text of the fullest breaking, or empty for n = 0
pub record IsWordWrapped (n : ℕ) (text answer : List ℕ) : Type 0 where
  pub utf8 : IsUtf8 answer
  pub wrapped : MatchBool (n == 0) (answer ≡ []) (IsWordWrappedText n (chars text) (chars answer))

-- ---- what is dropped

-- the parts are the line, with a space or nothing between every two
abbrev pub ArePartsOf : List ℕ → List (List ℕ) → Type 0
ArePartsOf line [] = line ≡ []
ArePartsOf line (part ∷ []) = line ≡ part
ArePartsOf line (part ∷ next ∷ parts) =
    (rest : List ℕ) × ((line ≡ part ++ 32 ∷ rest) ⊎ (line ≡ part ++ rest)) × ArePartsOf rest (next ∷ parts)

-- each line of the old text is cut into parts, with a space or nothing between every two, and each
-- part is a line of the new text: only spaces are dropped, one at most between two lines
pub record HasOldWords (old new : List ℕ) : Type 0 where
  pub parts : List (List (List ℕ))
  pub each : AllZip ArePartsOf (lines_of (chars old)) parts
  pub joined : chars new ≡ join_with_byte 10 (map (join_with_byte 10) parts)
