-- The widths below which columns don't shrink. A cell is the list of its bytes.
use Rattle.std.specs.Prelude.{ℕ, ◌+◌, ◌==◌, ◌&&◌, Bool, false, List, if◌then◌else◌, length, map, max, min, slice_index_or}
use Rattle.std.specs.List.{range_with_len}
use Rattle.tabled_base.specs.Cells.{cell_at, columns}
use Rattle.tabled_priority.specs.Permitted.{at}
use Rattle.tabled_set.specs.Minimums.{minimums}
use Rattle.tabled_size.specs.Sheet.{Sheet}
use Rattle.tabled_text.specs.Measure.{greatest, text_columns}
use Rattle.tabview_cells.specs.Words.{longest_word}
use Rattle.tabview_print.specs.declared.layout.Column.{Column}
use Rattle.tabview_print.specs.declared.floors.TheConstants.{WORD_COLUMNS}

-- whether a column keeps the width of its widest cell. Columns without a layout give
abbrev pub keeps_at : List Column → ℕ → Bool
keeps_at laid column = slice_index_or (map (λ c. c.keeps) laid) column false

-- a cell has the name of its column: it is in the first row, and this has the names
abbrev pub is_name : Bool → ℕ → Bool
is_name header row = header && (row == 0)

-- the columns that a cell wants at least: for the whole text in a column that keeps its width,
-- unless it is the name; else for the longest word, but no more than a few
abbrev pub cell_floor : Bool → Bool → List ℕ → ℕ
cell_floor name keeps text =
    if name then min WORD_COLUMNS (longest_word text) else (if keeps then text_columns text else min WORD_COLUMNS (longest_word text))

-- the columns that the cells of a column want at least: the greatest number, or 1
unfoldable pub content_floor : Bool → Bool → List (List (List ℕ)) → ℕ → ℕ
content_floor header keeps cells column =
    max 1 (greatest (map (λ row. cell_floor (is_name header row) keeps (cell_at cells row column)) (range_with_len 0 (length cells))))

-- the width below which a column doesn't shrink: that number and its padding, or its own width if
-- that is less
abbrev pub floor_of : List Column → Bool → Sheet → ℕ → ℕ
floor_of laid header t column =
    min (at t.widths column) (at (minimums t.cells t.config) column + content_floor header (keeps_at laid column) t.cells column)

unfoldable pub floors_of : List Column → Bool → Sheet → List ℕ
floors_of laid header t = map (floor_of laid header t) (range_with_len 0 (columns t.cells))
