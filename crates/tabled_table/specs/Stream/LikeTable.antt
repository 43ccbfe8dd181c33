-- Streams that print the same bytes as a `Table`.
use Rattle.std.specs.Prelude.{◌≡◌, ℕ, ◌<◌, ◌≤◌, Bool, true, List, None, length}
use Rattle.std.specs.List.{All}
use Rattle.tabled_text.specs.Exact.{IsExactLine}
use Rattle.tabled_base.specs.Cells.{IsRectangular, columns}
use Rattle.tabled_config.specs.Spanned.{spanned_of_compact}
use Rattle.tabled_line.specs.Sent.{Sent, Sends}
use Rattle.tabled_grid.specs.Picture.{table_text}
use Rattle.tabled_size.specs.Sheet.{estimated}
use Rattle.tabled_table.specs.declared.iter_table.settings.StreamSettings.{StreamSettings}
use Rattle.tabled_table.specs.Stream.Streams.{AreEnough, StreamSource}

-- all rows are measured: there is a row and a column, the rows are equally long, all are read
-- ahead, and the numbers of columns and rows and the sizes aren't set
pub record AreMeasured (settings : StreamSettings) (cells : List (List (List ℕ))) : Type 0 where
  pub has_row : 0 < length cells
  pub has_column : 0 < columns cells
  pub rectangular : IsRectangular cells
  pub sniffed : length cells ≤ settings.sniff
  pub no_columns : settings.columns ≡ None
  pub no_rows : settings.rows ≡ None
  pub no_width : settings.width ≡ None
  pub no_height : settings.height ≡ None

-- a stream of these rows is like a table: the rows are measured, and each cell is an exact line
pub record IsLikeTable (settings : StreamSettings) (cells : List (List (List ℕ))) : Type 0 where
  pub measured : AreMeasured settings cells
  pub exact : All (All IsExactLine) cells

-- what a call that prints a source leaves: some rows were read first, as many as were needed; if
-- their stream is like a table, they are all, and the text of the table with estimated sizes was
-- written
pub record PrintsLikeTable (from : StreamSource) (old new : Sent) : Type 0 where
  pub rows : List (List (List ℕ))
  pub whole : Bool
  pub came : from.comes rows whole
  pub enough : AreEnough from.settings rows whole
  pub alike : IsLikeTable from.settings rows
      → (whole ≡ true) × Sends old new (table_text (estimated rows (spanned_of_compact from.config)))
