-- The table that is streamed: the rows that are read ahead, the columns, the rows, and their sizes.
use Rattle.std.specs.Prelude.{◌≡◌, ℕ, ◌+◌, ◌<◌, ◌&&◌, ◌||◌, nat_lt, not, if◌then◌else◌, List, [], Option, Some, None, is_some, unwrap_or, length, map, max, min, take}
use Rattle.std.specs.List.{range_with_len, slice_index, slice_index_or}
use Rattle.tabled_text.specs.Measure.{greatest, lines_of, text_columns}
use Rattle.tabled_base.specs.Cells.{lengthened, longest}
use Rattle.tabled_config.specs.declared.compact.CompactConfig.{CompactConfig}
use Rattle.tabled_config.specs.Spanned.{spanned_of_compact}
use Rattle.tabled_size.specs.Sheet.{Sheet}
use Rattle.tabled_table.specs.declared.iter_table.settings.StreamSettings.{StreamSettings}
use Rattle.tabled_table.specs.Stream.Marked.{IsCutCell}

-- the greatest number of rows that are read ahead: 0 if both the number of columns and their width
-- are set
abbrev pub ahead : StreamSettings → ℕ
ahead settings = if is_some settings.width && is_some settings.columns then 0 else settings.sniff

-- the rows of a source that are read ahead
abbrev pub sniffed : StreamSettings → List (List (List ℕ)) → List (List (List ℕ))
sniffed settings rows = take (ahead settings) rows

-- the first rows, as many as are shown at most
abbrev pub limited : Option ℕ → List (List (List ℕ)) → List (List (List ℕ))
limited None rows = rows
limited (Some limit) rows = take limit rows

-- the number of columns: as set, else the number of cells in the longest row that is read ahead
abbrev pub column_count : StreamSettings → List (List (List ℕ)) → ℕ
column_count settings ahead_rows = unwrap_or settings.columns (longest ahead_rows)

-- the width of the widest cell in a column, without padding; a missing cell is empty
abbrev pub widest : List (List (List ℕ)) → ℕ → ℕ
widest rows column = greatest (map (λ row. text_columns (slice_index_or row column [])) rows)

-- the content width of a column: as set, else the width of its widest cell that is read ahead
abbrev pub content_width : StreamSettings → List (List (List ℕ)) → ℕ → ℕ
content_width settings ahead_rows column = unwrap_or settings.width (widest ahead_rows column)

-- the lines of the tallest of a row's first cells, at least 1
abbrev pub tallest : ℕ → List (List ℕ) → ℕ
tallest count row = max 1 (greatest (map (λ text. length (lines_of text)) (take count row)))

-- the lines for text in a row: as set; else those of its tallest cell, if the row is read ahead and
-- no width is set; else 1
abbrev pub content_height : StreamSettings → List (List (List ℕ)) → ℕ → List (List ℕ) → ℕ
content_height settings ahead_rows index row =
    unwrap_or settings.height
    (if is_some settings.width || not (nat_lt index (length ahead_rows)) then 1 else tallest (column_count settings ahead_rows) row)

-- the width of a column: its content width and side padding
abbrev pub stream_width : StreamSettings → CompactConfig → List (List (List ℕ)) → ℕ → ℕ
stream_width settings config ahead_rows column =
    content_width settings ahead_rows column + (config.padding.left.size + config.padding.right.size)

-- the height of a row: its lines for text, and top and bottom padding
abbrev pub stream_height : StreamSettings → CompactConfig → List (List (List ℕ)) → ℕ → List (List ℕ) → ℕ
stream_height settings config ahead_rows index row =
    content_height settings ahead_rows index row + (config.padding.top.size + config.padding.bottom.size)

-- the widths of all columns
abbrev pub stream_widths : StreamSettings → CompactConfig → List (List (List ℕ)) → List ℕ
stream_widths settings config ahead_rows =
    map (stream_width settings config ahead_rows) (range_with_len 0 (column_count settings ahead_rows))

-- the cells of a row that is shown: its first cells, each cut to its column, with the mark if one is
-- set, and empty ones for those that are missing
pub record IsMarkedRow (mark : Option ℕ) (content : ℕ → ℕ) (count : ℕ) (row cells : List (List ℕ)) : Type 0 where
  pub cut : List (List ℕ)
  pub as_many : length cut ≡ min count (length row)
  pub each : (column : ℕ) → column < length cut
      → IsCutCell mark (content column) (slice_index_or row column []) (slice_index_or cut column [])
  pub whole : cells ≡ lengthened count cut

-- the same without a mark
abbrev pub IsCutRow : (ℕ → ℕ) → ℕ → List (List ℕ) → List (List ℕ) → Type 0
IsCutRow content count row cells = IsMarkedRow None content count row cells

-- the sheet of these rows, where `ahead_rows` were read ahead
pub record IsStreamed (settings : StreamSettings) (config : CompactConfig) (ahead_rows rows : List (List (List ℕ))) (t : Sheet) : Type 0 where
  pub as_many : length t.cells ≡ length rows
  pub cells : (index : ℕ) → index < length rows
      → IsMarkedRow settings.mark (content_width settings ahead_rows) (column_count settings ahead_rows) (slice_index_or rows index [])
      (slice_index_or t.cells index [])
  pub settings_of : t.config ≡ spanned_of_compact config
  pub widths : t.widths ≡ stream_widths settings config ahead_rows
  pub as_high : length t.heights ≡ length rows
  pub heights : (index : ℕ) → index < length rows
      → slice_index t.heights index ≡ stream_height settings config ahead_rows index (slice_index_or rows index [])
