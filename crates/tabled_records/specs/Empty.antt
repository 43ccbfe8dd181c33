-- The remaining empty cells and rows.
use Rattle.std.specs.Prelude.{ℕ, List, [], replicate}
use Rattle.tabled_records.specs.declared.empty.EmptyCells.{EmptyCells}
use Rattle.tabled_records.specs.declared.empty.EmptyRows.{EmptyRows}

-- the texts of the remaining cells
abbrev pub cells_left : EmptyCells → List (List ℕ)
cells_left cells = replicate cells.count []

-- the remaining rows
abbrev pub rows_left : EmptyRows → List EmptyCells
rows_left rows = replicate rows.count (record { count = rows.columns })
