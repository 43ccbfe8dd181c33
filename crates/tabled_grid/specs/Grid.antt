-- The sheet of records, settings and sizes.
use Rattle.std.specs.Prelude.{ℕ, List, Option, length}
use Rattle.tabled_base.specs.Cells.{columns}
use Rattle.tabled_config.specs.declared.spanned.SpannedConfig.{SpannedConfig}
use Rattle.tabled_size.specs.Reached.{reached}
use Rattle.tabled_size.specs.Sheet.{Sheet}

-- cells and settings, with the sizes that a dimension returns for their columns and rows
abbrev pub sheet_by : List (List (List ℕ)) → SpannedConfig → (ℕ → Option ℕ) → (ℕ → Option ℕ) → Sheet
sheet_by cells config width_at height_at = record {
  cells = cells;
  config = config;
  widths = reached width_at (columns cells);
  heights = reached height_at (length cells);
}
