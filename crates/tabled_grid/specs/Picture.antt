-- The picture of a table: the list of its lines.
use Rattle.std.specs.Prelude.{ℕ, if◌then◌else◌, List, [], ◌++◌, length, replicate}
use Rattle.std.specs.List.{flat_map, join_with_byte, range_with_len, slice_index}
use Rattle.tabled_base.specs.Cells.{cell_at, columns}
use Rattle.tabled_config.specs.Settings.{frame, rule_at, style_at}
use Rattle.tabled_line.specs.Fill.{fill}
use Rattle.tabled_line.specs.Row.{ColumnSheet, RowSheet, row_lines, rule_if}
use Rattle.tabled_size.specs.Sheet.{Sheet, is_empty}
use Rattle.tabled_size.specs.Totals.{filled_width}

-- the columns of a table, with its frame
abbrev pub sheet_columns : Sheet → ColumnSheet
sheet_columns t = record { count = columns t.cells; width = slice_index t.widths; frame = frame t.config }

-- a row of a table
abbrev pub row_of : Sheet → ℕ → RowSheet
row_of t row = record { columns = sheet_columns t; height = slice_index t.heights row; text = cell_at t.cells row; style = style_at t.config row }

-- the horizontal line above a row or below the last one, if there is one
unfoldable pub rule : Sheet → ℕ → List (List ℕ)
rule t i = rule_if (sheet_columns t) (rule_at t.config (length t.cells) i)

-- a row, after the horizontal line above it
unfoldable pub row_part : Sheet → ℕ → List (List ℕ)
row_part t row = rule t row ++ row_lines (row_of t row)

-- the lines of a table with a row and a column: top margin, rows, last horizontal line, bottom
-- margin; the margins are `whole` columns wide
unfoldable pub filled_picture : Sheet → ℕ → List (List ℕ)
filled_picture t whole =
    let margin = (frame t.config).margin in
    replicate margin.top.size (fill margin.top.fill whole)
    ++ (flat_map (row_part t) (range_with_len 0 (length t.cells))
    ++ (rule t (length t.cells) ++ replicate margin.bottom.size (fill margin.bottom.fill whole)))

-- the lines of a table; there are none if it has no row or no column
unfoldable pub picture : Sheet → List (List ℕ)
picture t = if is_empty t.cells then [] else filled_picture t (filled_width t.config (columns t.cells) t.widths)

-- the text of the picture: its lines, joined by line feeds
abbrev pub table_text : Sheet → List ℕ
table_text t = join_with_byte 10 (picture t)
