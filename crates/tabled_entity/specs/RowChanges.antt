-- The latest changes that cover the cells of a row.
use Rattle.std.specs.Prelude.{ℕ, Option}
use Rattle.std.specs.Borrow.{Bor}
use Rattle.std.specs.Option.{option_and_then}
use Rattle.tabled_entity.specs.ChangeIndex.{later}
use Rattle.tabled_entity.specs.RunMap.{value_in}
use Rattle.tabled_entity.specs.declared.row_values.RowChanges.{RowChanges}
use Rattle.tabled_entity.specs.declared.row_values.RowChanges.TheVariants.{Cells, Mixed, Same}
use Rattle.tabled_entity.specs.declared.run_map.RunMap.{RunMap}
use Rattle.tabled_entity.specs.declared.run_map.RowPlaces.{RowPlaces}

-- the change for a cell of the row, by its column
abbrev pub place_in : Option (Bor RowPlaces) → ℕ → Option ℕ
place_in cells column = option_and_then (λ map. value_in map.now.places column) cells

-- the latest of the changes for the row, for the column, and for the cell itself
abbrev pub latest_of : Option ℕ → RunMap ℕ → Option (Bor RowPlaces) → ℕ → Option ℕ
latest_of row columns cells column = later row (later (value_in columns column) (place_in cells column))

-- the latest change that covers the cell in a column
abbrev pub latest_at : RowChanges → ℕ → Option ℕ
latest_at (Same place) column = place
latest_at (Cells cells) column = value_in cells.now.places column
latest_at (Mixed row columns cells) column = latest_of row columns.now cells column
