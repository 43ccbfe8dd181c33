-- What a cell of a stream becomes: a text cut to n columns, where a mark may show that it was cut.
use Rattle.std.specs.Prelude.{◌≡◌, ℕ, ◌-◌, ◌&&◌, ◌⊎◌, Bool, List, MatchBool, Option, Some, None, encode_utf8, nat_le}
use lib.Utf8.{scalar}
use Rattle.tabled_set.specs.Truncated.{IsEnded}
use Rattle.tabled_text.specs.Cut.{IsCut}
use Rattle.tabled_text.specs.Measure.{char_count}

-- a text stays whole in n columns: cutting it to them changes nothing
abbrev pub StaysWhole : ℕ → List ℕ → Type 0
StaysWhole n text = IsCut n text text

-- a mark fits in n columns: it counts at most n. Each `char` is a scalar value; a number that is
-- none fits nowhere
abbrev pub mark_fits : ℕ → ℕ → Bool
mark_fits mark n = scalar mark && nat_le (char_count mark) n

-- a text cut to n columns with a mark. A text that stays whole has no mark. Another is cut to the
-- columns that the mark leaves, and ends in the mark; a mark that doesn't fit is left out
abbrev pub IsMarked : ℕ → ℕ → List ℕ → List ℕ → Type 0
IsMarked mark n text answer =
    (StaysWhole n text × (answer ≡ text))
    ⊎ ((StaysWhole n text → ⊥)
    × MatchBool (mark_fits mark n) (IsEnded (n - char_count mark) (encode_utf8 mark) text answer) (IsCut n text answer))

-- a cell cut to n columns, with the mark if one is set
abbrev pub IsCutCell : Option ℕ → ℕ → List ℕ → List ℕ → Type 0
IsCutCell None n text answer = IsCut n text answer
IsCutCell (Some mark) n text answer = IsMarked mark n text answer
