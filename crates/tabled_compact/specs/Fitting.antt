-- Tables of an array of rows, with columns as wide as their cells.
use Rattle.std.specs.Prelude.{◌≡◌, ℕ, ◌+◌, List, [], Some, map, min, slice_index_or}
use Rattle.std.specs.List.{range_with_len}
use Rattle.tabled_text.specs.Measure.{greatest, text_columns}
use Rattle.tabled_priority.specs.Numbers.{greatest_usize}
use Rattle.tabled_size.specs.declared.const_dimension.ConstDimension.{ConstDimension}
use Rattle.tabled_size.specs.declared.const_dimension.ConstSize.TheVariants.{List as Listed, Value}
use Rattle.tabled_line.specs.NewConfig.{IsNewConfig}
use Rattle.tabled_compact.specs.declared.table.CompactTable.{CompactTable}

-- the width of the widest cell in a column, without padding; 0 if there is no row
abbrev pub widest_cell : List (List (List ℕ)) → ℕ → ℕ
widest_cell cells column = greatest (map (λ row. text_columns (slice_index_or row column [])) cells)

-- the width that fits a column: its widest cell, and one column of padding left and right; at most
-- the greatest `usize`
abbrev pub fitting_width : List (List (List ℕ)) → ℕ → ℕ
fitting_width cells column = min (widest_cell cells column + 2) greatest_usize

-- the widths that fit the first columns
abbrev pub fitting_widths : ℕ → List (List (List ℕ)) → List ℕ
fitting_widths columns cells = map (fitting_width cells) (range_with_len 0 columns)

-- a new table of measured rows: it shows all rows and all columns, with widths that fit
pub record IsTableOf {A : Type 0} (cells : A → List (List (List ℕ))) (columns count : ℕ) (rows : A)
    (table : CompactTable A (ConstDimension columns count)) : Type 0 where
  pub records : table.records ≡ rows
  pub config : IsNewConfig table.config
  pub widths : table.dimension.width ≡ Listed (fitting_widths columns (cells rows))
  pub height : table.dimension.height ≡ Value 1
  pub shown_columns : table.columns ≡ columns
  pub window : table.window ≡ record { skip = 0; limit = Some count }
