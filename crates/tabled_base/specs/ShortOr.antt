-- A string that is stored inline if it is short, with its measures.
use Rattle.std.specs.Prelude.{ℕ, ◌-◌, ◌^◌, ◌≡◌, ◌≤◌, List, length, min}
use Rattle.tabled_base.specs.declared.text.TheConstants.{SHORT_TEXT}
use Rattle.tabled_base.specs.declared.text.ShortOr.{ShortOr}
use Rattle.tabled_base.specs.declared.text.ShortOr.TheVariants.{Short, Other}
use Rattle.tabled_text.specs.Measure.{lines_of, text_columns}

-- the bytes of the text, by a function that gives the bytes of the other type
abbrev pub bytes_of : {S : Type 0} → (S → List ℕ) → ShortOr S → List ℕ
bytes_of text (Short lines columns short) = short.bytes
bytes_of text (Other lines columns other) = text other

-- the columns that are stored
abbrev pub columns_in : {S : Type 0} → ShortOr S → ℕ
columns_in (Short lines columns short) = columns
columns_in (Other lines columns other) = columns

-- the number of lines that is stored
abbrev pub lines_in : {S : Type 0} → ShortOr S → ℕ
lines_in (Short lines columns short) = lines
lines_in (Other lines columns other) = lines

-- the measures of a text are stored, or the greatest number of 32 and of 16 bits where they don't fit
pub record IsMeasured {S : Type 0} (bytes : List ℕ) (stored : ShortOr S) : Type 0 where
  pub columns : columns_in stored ≡ min (text_columns bytes) (2 ^ 32 - 1)
  pub lines : lines_in stored ≡ min (length (lines_of bytes)) (2 ^ 16 - 1)

-- an ending after `bytes` bytes makes at most `SHORT_TEXT` bytes. An empty ending always fits
abbrev pub FitsBehind : ℕ → List ℕ → Type 0
FitsBehind bytes ending = length ending ≤ SHORT_TEXT - bytes
