-- The cells and the rows of a compact table.
use Rattle.std.specs.Prelude.{ℕ, ◌-◌, List, [], ◌++◌, Option, slice_index_or}
use Rattle.std.specs.List.{flat_map, range_with_len, slice_index}
use Rattle.tabled_text.specs.Measure.{text_columns}
use Rattle.tabled_config.specs.Frame.{frame_of, has_bar}
use Rattle.tabled_config.specs.declared.compact.CompactConfig.{CompactConfig}
use Rattle.tabled_size.specs.Reached.{reached}
use Rattle.tabled_line.specs.Block.{before_text}
use Rattle.tabled_line.specs.Fill.{padded_text}
use Rattle.tabled_line.specs.Row.{ColumnSheet, left_edge, piece, right_edge}

-- the sheet of a compact table: its configuration, its number of columns, and their widths, as far
-- as there are any
pub record CompactSheet : Type 0 where
  pub config : CompactConfig
  pub count : ℕ
  pub widths : List ℕ

-- the sheet with this configuration and `count` columns, with the widths that a dimension has for
-- them
abbrev pub sheet_by : CompactConfig → (ℕ → Option ℕ) → ℕ → CompactSheet
sheet_by config width_at count =
    record { config = config; count = count; widths = reached width_at count }

-- the columns of a sheet, with their frame
abbrev pub compact_columns : CompactSheet → ColumnSheet
compact_columns t = record {
  count = t.count;
  width = slice_index t.widths;
  frame = frame_of t.config.borders t.config.margin;
}

-- a cell: left padding, spaces by alignment, the whole text, spaces, right padding; a text that is
-- wider than the content width leaves no columns free
unfoldable pub compact_cell : CompactConfig → ℕ → List ℕ → List ℕ
compact_cell config width text =
    let free = width - config.padding.left.size - config.padding.right.size - text_columns text in
    let before = before_text config.alignment_horizontal free in
    padded_text config.padding before text (free - before)

-- the vertical line before a column, and a text in the column
unfoldable pub compact_piece : CompactSheet → ℕ → List ℕ → List ℕ
compact_piece t column text =
    let f = (compact_columns t).frame in
    piece (has_bar f column) f.inner.main
    ++ compact_cell t.config (slice_index t.widths column) text

-- the first columns of a row; a missing cell is empty
abbrev pub pieces : CompactSheet → List (List ℕ) → ℕ → List ℕ
pieces t row n =
    flat_map (λ column. compact_piece t column (slice_index_or row column [])) (range_with_len 0 n)

-- the beginning of the line of a row: its left edge, and its first columns
unfoldable pub row_front : CompactSheet → List (List ℕ) → ℕ → List ℕ
row_front t row n = let f = (compact_columns t).frame in left_edge f f.left.main ++ pieces t row n

-- the line of a row: its cells between the edges; cells after the last column are ignored
unfoldable pub compact_row : CompactSheet → List (List ℕ) → List ℕ
compact_row t row =
    let f = (compact_columns t).frame in row_front t row t.count ++ right_edge f f.right.main
