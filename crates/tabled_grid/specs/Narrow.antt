-- The first cell that doesn't fit its column.
use Rattle.std.specs.Prelude.{ℕ, ◌<◌, length}
use Rattle.std.specs.List.{slice_index}
use Rattle.tabled_base.specs.Cells.{columns}
use Rattle.tabled_base.specs.declared.error.TableError.{TableError}
use Rattle.tabled_base.specs.declared.error.TableError.TheVariants.{Narrow}
use Rattle.tabled_size.specs.Estimates.{needed_width}
use Rattle.tabled_size.specs.Holds.{IsHeld}
use Rattle.tabled_size.specs.Sheet.{Sheet}

-- all cells of a row fit their columns
abbrev pub IsHeldIn : Sheet → ℕ → Type 0
IsHeldIn t row = (c : ℕ) → c < columns t.cells → IsHeld t row c

-- the first cell of a row that doesn't fit its column
pub record IsNarrowIn (t : Sheet) (row column : ℕ) : Type 0 where
  pub column_in : column < columns t.cells
  pub narrow : slice_index t.widths column < needed_width t.cells t.config row column
  pub before : (c : ℕ) → c < column → IsHeld t row c

-- the first such cell of the table, row by row
pub record IsFirstNarrow (t : Sheet) (row column : ℕ) : Type 0 where
  pub row_in : row < length t.cells
  pub at : IsNarrowIn t row column
  pub above : (r c : ℕ) → r < row → c < columns t.cells → IsHeld t r c

-- an error that names this cell
abbrev pub IsNarrow : Sheet → TableError → Type 0
IsNarrow t (Narrow row column) = IsFirstNarrow t row column
IsNarrow t _ = ⊥
