-- New compact tables, tables with other sizes, and what options see.
use Rattle.std.specs.Prelude.{◌≡◌, ℕ, None, Option}
use Rattle.tabled_line.specs.NewConfig.{IsNewConfig}
use Rattle.tabled_records.specs.declared.empty.EmptyRecords.{EmptyRecords}
use Rattle.tabled_compact.specs.CompactCells.{CompactSheet, sheet_by}
use Rattle.tabled_compact.specs.declared.table.CompactTable.{CompactTable}

-- a new table of rows, with no columns yet
pub record IsNewTable {I D : Type 0} (rows : I) (table : CompactTable I D) : Type 0 where
  pub records : table.records ≡ rows
  pub config : IsNewConfig table.config
  pub columns : table.columns ≡ 0
  pub window : table.window ≡ record { skip = 0; limit = None }

-- all except the dimension is the same
pub record IsResized {I D E : Type 0} (old : CompactTable I D) (new : CompactTable I E) : Type 0 where
  pub records : new.records ≡ old.records
  pub config : new.config ≡ old.config
  pub columns : new.columns ≡ old.columns
  pub window : new.window ≡ old.window

-- the sheet of a table, by the widths that its dimension returns
abbrev pub sheet_of : {I D : Type 0} → (D → ℕ → Option ℕ) → CompactTable I D → CompactSheet
sheet_of width_at table = sheet_by table.config (width_at table.dimension) table.columns

-- records without rows and columns
abbrev pub no_records : EmptyRecords
no_records = record { rows = 0; columns = 0 }
