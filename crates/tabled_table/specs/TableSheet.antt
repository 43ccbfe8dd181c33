-- The sheet of a table, and what its settings promise.
use Rattle.std.specs.Prelude.{◌≡◌, ◌⊎◌, ℕ, List, false, length, true}
use Rattle.tabled_base.specs.Cells.{columns}
use Rattle.tabled_base.specs.declared.error.TableError.{TableError}
use Rattle.tabled_base.specs.declared.error.TableError.TheVariants.{Memory}
use Rattle.tabled_grid.specs.ApartSheet.{IsApartConfig}
use Rattle.tabled_grid.specs.AdditiveSheet.{IsAdditiveConfig}
use Rattle.tabled_grid.specs.Printed.{IsPrintableSheet, FailsToPrint}
use Rattle.tabled_size.specs.Sheet.{Sheet, estimated, is_empty}
use Rattle.tabled_size.specs.Effective.{effective}
use Rattle.tabled_table.specs.NewConfig.{new_config}
use Rattle.tabled_table.specs.declared.table.Table.{Table}

-- the sheet of a new table with these cells: its settings, and estimated sizes
abbrev pub new_sheet : List (List (List ℕ)) → Sheet
new_sheet cells = estimated cells new_config

-- the cells of a table, row by row
abbrev pub cells_of : Table → List (List (List ℕ))
cells_of table = table.records

-- a table with its effective sizes: those that are stored, else estimates
abbrev pub sheet : Table → Sheet
sheet table = effective (cells_of table) table.config.config table.dimension

-- the settings separate the cells of a table
abbrev pub IsApart : Table → Type 0
IsApart table = IsApartConfig (sheet table).config (length (cells_of table)) (columns (cells_of table))

-- borders, fills and margins are plain characters or separators of one column
abbrev pub IsAdditiveTable : Table → Type 0
IsAdditiveTable table = IsAdditiveConfig (sheet table).config (length (cells_of table)) (columns (cells_of table))

-- the table is empty, or it can be printed
abbrev pub HasText : Table → Type 0
HasText table = (is_empty (cells_of table) ≡ true) ⊎ IsPrintableSheet (sheet table)

-- the table has a row and a column, and an allocation failed, or it can't be printed
abbrev pub HasNoText : Table → TableError → Type 0
HasNoText table error = (is_empty (cells_of table) ≡ false) × ((error ≡ Memory) ⊎ FailsToPrint (sheet table) error)
