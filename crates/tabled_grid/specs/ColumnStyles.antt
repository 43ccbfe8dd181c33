-- The styles and placements of all columns, cached for rows with the same settings.
use Rattle.std.specs.Prelude.{◌≡◌, ℕ, List, Option, IfSome, map, true}
use Rattle.std.specs.List.{range_with_len, slice_index}
use Rattle.tabled_config.specs.Settings.{frame, style_at}
use Rattle.tabled_config.specs.declared.spanned.CellStyle.{CellStyle}
use Rattle.tabled_config.specs.declared.spanned.SpannedConfig.{SpannedConfig}
use Rattle.tabled_grid.specs.declared.column_styles.ColumnStyles.{ColumnStyles}
use Rattle.tabled_line.specs.Placements.{ArePlacements}
use Rattle.tabled_line.specs.Row.{ColumnSheet}
use Rattle.tabled_size.specs.Reached.{reached}

-- columns of some widths, in the frame of a configuration
abbrev pub columns_in : SpannedConfig → (ℕ → ℕ) → ℕ → ColumnSheet
columns_in config width count = record { count = count; width = width; frame = frame config }

-- the same, with the widths of a dimension
abbrev pub columns_by : SpannedConfig → (ℕ → Option ℕ) → ℕ → ColumnSheet
columns_by config width_at count = columns_in config (slice_index (reached width_at count)) count

-- the styles of the first columns of a row
abbrev pub styles_of : SpannedConfig → ℕ → ℕ → List CellStyle
styles_of config row columns = map (style_at config row) (range_with_len 0 columns)

-- what is cached: the styles of the row at index `kept.row` and its placements, if they are known,
-- and whether all rows have the same styles
pub record AreStyles (config : SpannedConfig) (width : ℕ → ℕ) (columns : ℕ) (kept : ColumnStyles) : Type 0 where
  pub styles : IfSome kept.styles (λ styles. styles.items ≡ styles_of config kept.row columns)
  pub placements : IfSome kept.placements
      (λ placements. ArePlacements (style_at config kept.row) (columns_in config width columns) placements.now)
  pub everywhere : kept.everywhere ≡ true → (row column : ℕ) → style_at config row column ≡ style_at config kept.row column
