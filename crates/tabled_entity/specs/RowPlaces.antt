-- The latest changes for cells, by row and by column.
use Rattle.std.specs.Prelude.{ℕ, ◌≡◌, ◌==◌, ◌&&◌, if◌then◌else◌, Option, Some}
use Rattle.std.specs.Option.{option_and_then}
use Rattle.tabled_entity.specs.RunMap.{value_in}
use Rattle.tabled_entity.specs.declared.run_map.RunMap.{RunMap}
use Rattle.tabled_entity.specs.declared.run_map.RowPlaces.{RowPlaces}

-- the value of the cell in a row and a column
abbrev pub cell_in : RunMap RowPlaces → ℕ → ℕ → Option ℕ
cell_in rows row column = option_and_then (λ cells. value_in cells.places column) (value_in rows row)

-- each cell has the same value
pub record SameCells (old new : RunMap RowPlaces) : Type 0 where
  pub at : (row column : ℕ) → cell_in new row column ≡ cell_in old row column

-- one cell has a new value
pub record HoldsCell (old new : RunMap RowPlaces) (row column value : ℕ) : Type 0 where
  pub at : (r c : ℕ)
      → cell_in new r c ≡ (if row == r && column == c then Some value else cell_in old r c)
