-- Whether the widths of a table are large enough for its cells.
use Rattle.std.specs.Prelude.{ℕ, ◌<◌, ◌≤◌, length}
use Rattle.std.specs.List.{slice_index}
use Rattle.tabled_base.specs.Cells.{columns}
use Rattle.tabled_size.specs.Estimates.{needed_width}
use Rattle.tabled_size.specs.Sheet.{Sheet}

-- there is a width for each column and a height for each row
pub record IsSized (t : Sheet) : Type 0 where
  pub columns : columns t.cells ≤ length t.widths
  pub rows : length t.cells ≤ length t.heights

-- a column is wide enough for one of its cells
abbrev pub IsHeld : Sheet → ℕ → ℕ → Type 0
IsHeld t row column = needed_width t.cells t.config row column ≤ slice_index t.widths column

-- all columns are wide enough for their cells
abbrev pub Holds : Sheet → Type 0
Holds t = (row column : ℕ) → row < length t.cells → column < columns t.cells → IsHeld t row column
