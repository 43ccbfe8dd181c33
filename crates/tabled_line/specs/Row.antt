-- The lines of rows, and the horizontal lines between them.
use Rattle.std.specs.Prelude.{ℕ, if◌then◌else◌, Bool, List, [], ◌∷◌, ◌++◌, map, Option, Some, None, encode_utf8, unwrap_or}
use Rattle.std.specs.List.{flat_map, range_with_len, slice_index_or}
use Rattle.tabled_config.specs.declared.borders.HorizontalLine.{HorizontalLine}
use Rattle.tabled_config.specs.declared.borders.Frame.{Frame}
use Rattle.tabled_config.specs.declared.borders.VerticalLine.{VerticalLine}
use Rattle.tabled_config.specs.declared.spanned.CellStyle.{CellStyle}
use Rattle.tabled_config.specs.Frame.{has_bar}
use Rattle.tabled_line.specs.Block.{block}
use Rattle.tabled_line.specs.Fill.{fill, indent}

-- the columns of a table: their number, their widths, and the frame around and between them
pub record ColumnSheet : Type 0 where
  pub count : ℕ
  pub width : ℕ → ℕ
  pub frame : Frame

-- a row: its columns, its height in lines, and the text and style of each cell
pub record RowSheet : Type 0 where
  pub columns : ColumnSheet
  pub height : ℕ
  pub text : ℕ → List ℕ
  pub style : ℕ → CellStyle

-- the character of a vertical line, if it is there
abbrev pub piece : Bool → ℕ → List ℕ
piece there c = if there then encode_utf8 c else []

-- the separator between two texts: `behind` spaces, the vertical line, and `before` spaces
abbrev pub separator_text : VerticalLine → ℕ → ℕ → List ℕ
separator_text bar behind before = fill 32 behind ++ (piece bar.there bar.main ++ fill 32 before)

-- the left margin, and the left vertical line
unfoldable pub left_edge : Frame → ℕ → List ℕ
left_edge frame c = indent frame.margin.left ++ piece frame.left.there c

-- the right vertical line, and the right margin
unfoldable pub right_edge : Frame → ℕ → List ℕ
right_edge frame c = piece frame.right.there c ++ indent frame.margin.right

-- the block of a cell, in the width of its column and the height of its row
abbrev pub cell_block : RowSheet → ℕ → List (List ℕ)
cell_block row column = block (row.style column) (row.columns.width column) row.height (row.text column)

-- a line of a cell's block
abbrev pub block_line : RowSheet → ℕ → ℕ → List ℕ
block_line row index column = slice_index_or (cell_block row column) index []

-- a line of a cell's block, after the vertical line before it
unfoldable pub cell_piece : RowSheet → ℕ → ℕ → List ℕ
cell_piece row index column =
    let f = row.columns.frame in
    piece (has_bar f column) f.inner.main ++ block_line row index column

-- the cells in a line of a row
abbrev pub row_cells : RowSheet → ℕ → List ℕ
row_cells row index = flat_map (cell_piece row index) (range_with_len 0 row.columns.count)

-- a line of a row: its cells between the edges
unfoldable pub row_line : RowSheet → ℕ → List ℕ
row_line row index =
    let f = row.columns.frame in
    left_edge f f.left.main ++ (row_cells row index ++ right_edge f f.right.main)

-- the lines of a row, as many as its height
unfoldable pub row_lines : RowSheet → List (List ℕ)
row_lines row = map (row_line row) (range_with_len 0 row.height)

-- the part of a horizontal line over a column, after the intersection before it
unfoldable pub rule_piece : ColumnSheet → HorizontalLine → ℕ → List ℕ
rule_piece columns line column =
    piece (has_bar columns.frame column) (unwrap_or line.intersection 32) ++ fill (unwrap_or line.main 32) (columns.width column)

-- a horizontal line without its two ends
abbrev pub rule_pieces : ColumnSheet → HorizontalLine → List ℕ
rule_pieces columns line = flat_map (rule_piece columns line) (range_with_len 0 columns.count)

-- a horizontal line; a missing character is a space
unfoldable pub rule_line : ColumnSheet → HorizontalLine → List ℕ
rule_line columns line =
    let f = columns.frame in
    left_edge f (unwrap_or line.left 32) ++ (rule_pieces columns line ++ right_edge f (unwrap_or line.right 32))

-- a horizontal line, if there is one
abbrev pub rule_if : ColumnSheet → Option HorizontalLine → List (List ℕ)
rule_if columns None = []
rule_if columns (Some line) = rule_line columns line ∷ []
