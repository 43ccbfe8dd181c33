-- The rows of records as slices.
use Rattle.std.specs.Prelude.{ℕ, List, drop}
use Rattle.tabled_base.specs.declared.row_slices.RowSlices.{RowSlices}

-- the texts of the rows that an iterator hasn't yielded
abbrev pub slices_left : {T : Type 0} → RowSlices T → List (List (List ℕ))
slices_left it = drop it.next it.records.now
