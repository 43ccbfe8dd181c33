-- The rows of a table that is narrowed.
use Rattle.std.specs.Prelude.{ℕ, List, Option, None, Some}
use Rattle.tabled_set.specs.declared.narrowed_cells.NarrowedRows.{NarrowedRows}
use Rattle.tabled_set.specs.declared.narrowed_cells.NarrowedRows.TheVariants.{Cut, Made, Wrapped}

-- the cells of narrowed rows
abbrev pub narrowed_cells : NarrowedRows → List (List (List ℕ))
narrowed_cells (Cut rows) = rows
narrowed_cells (Wrapped rows) = rows
narrowed_cells (Made rows) = rows

-- or those of the table if it isn't narrowed
abbrev pub cells_of_or : Option NarrowedRows → List (List (List ℕ)) → List (List (List ℕ))
cells_of_or None own = own
cells_of_or (Some rows) own = narrowed_cells rows
