-- What a call that prints a stream leaves.
use Rattle.std.specs.Prelude.{◌≡◌, ℕ, ◌+◌, ◌==◌, ◌^◌, ◌<◌, ◌≤◌, ◌⊎◌, if◌then◌else◌, Bool, true, List, [], ◌∷◌, ◌++◌, Option, Some, None, Result, Ok, Err, length, map, max, slice_index}
use Rattle.tabled_base.specs.declared.error.TableError.{TableError}
use Rattle.tabled_base.specs.declared.error.TableError.TheVariants.{Memory, Range}
use Rattle.tabled_config.specs.declared.compact.CompactConfig.{CompactConfig}
use Rattle.tabled_config.specs.Spanned.{spanned_of_compact}
use Rattle.tabled_size.specs.Sheet.{Sheet}
use Rattle.tabled_size.specs.Totals.{filled_width}
use Rattle.tabled_line.specs.Sent.{Sent, Sends}
use Rattle.tabled_line.specs.StopsBelow.{StopsBelow}
use Rattle.tabled_line.specs.WriterSent.{known_since, writer_after, writer_before}
use Rattle.tabled_grid.specs.Picture.{table_text}
use Rattle.tabled_table.specs.declared.iter_table.settings.StreamSettings.{StreamSettings}
use Rattle.tabled_table.specs.Stream.Printed.{text_above, text_before}
use Rattle.tabled_table.specs.Stream.Streamed.{IsStreamed, ahead, column_count, limited, sniffed, stream_height, stream_widths}

-- the total width
abbrev pub stream_total : StreamSettings → CompactConfig → List (List (List ℕ)) → ℕ
stream_total settings config ahead_rows =
    filled_width (spanned_of_compact config) (column_count settings ahead_rows) (stream_widths settings config ahead_rows)

-- there are as many rows as are shown at most
abbrev pub reaches : Option ℕ → ℕ → Type 0
reaches None count = ⊥
reaches (Some limit) count = limit ≤ count

-- the rows that were read are all, or include those that are read ahead
abbrev pub AreSniffed : StreamSettings → List (List (List ℕ)) → Bool → Type 0
AreSniffed settings rows whole = (whole ≡ true) ⊎ (ahead settings ≤ length rows)

-- the rows that were read are all, or further ones would change nothing
abbrev pub AreEnough : StreamSettings → List (List (List ℕ)) → Bool → Type 0
AreEnough settings rows whole =
    (whole ≡ true)
    ⊎ ((ahead settings ≤ length rows)
    × (reaches settings.rows (length rows) ⊎ (column_count settings (sniffed settings rows) ≡ 0)))

-- the rows that are shown: none if there is no column
abbrev pub shown_rows : StreamSettings → List (List (List ℕ)) → List (List (List ℕ))
shown_rows settings rows = if column_count settings (sniffed settings rows) == 0 then [] else limited settings.rows rows

-- each row that was read is read ahead or shown
abbrev pub ArePermitted : StreamSettings → List (List (List ℕ)) → Type 0
ArePermitted settings rows = length rows ≤ max (ahead settings) (length (shown_rows settings rows))

-- a row is shown, and there is a column
pub record IsFilled (settings : StreamSettings) (rows : List (List (List ℕ))) : Type 0 where
  pub shown : 0 < length (limited settings.rows rows)
  pub columns : 0 < column_count settings (sniffed settings rows)

-- the sheet of all rows that are shown; if it is filled, its heights and its total width are in
-- range
pub record IsWholeStream (settings : StreamSettings) (config : CompactConfig) (rows : List (List (List ℕ))) (t : Sheet) : Type 0 where
  pub streamed : IsStreamed settings config (sniffed settings rows) (limited settings.rows rows) t
  pub heights : IsFilled settings rows → (index : ℕ) → index < length (limited settings.rows rows) → slice_index t.heights index < 2 ^ 64
  pub width : IsFilled settings rows → stream_total settings config (sniffed settings rows) < 2 ^ 64

-- what was read of a stream, under its settings: the first rows, and whether these are all
pub record StreamRead : Type 0 where
  pub settings : StreamSettings
  pub config : CompactConfig
  pub rows : List (List (List ℕ))
  pub whole : Bool

-- the rows of a stream that are read ahead
abbrev pub rows_ahead : StreamRead → List (List (List ℕ))
rows_ahead stream = sniffed stream.settings stream.rows

-- the number of columns of a stream
abbrev pub stream_columns : StreamRead → ℕ
stream_columns stream = column_count stream.settings (rows_ahead stream)

-- the sheet of the first rows that are shown; `rest` are those after them
pub record IsBegun (stream : StreamRead) (shown rest : List (List (List ℕ))) (t : Sheet) : Type 0 where
  pub read : AreSniffed stream.settings stream.rows stream.whole
  pub parts : limited stream.settings.rows stream.rows ≡ shown ++ rest
  pub streamed : IsStreamed stream.settings stream.config (rows_ahead stream) shown t
  pub heights : (index : ℕ) → index < length shown → slice_index t.heights index < 2 ^ 64
  pub columns : 0 < stream_columns stream
  pub width : stream_total stream.settings stream.config (rows_ahead stream) < 2 ^ 64

-- the first of the following rows is too tall: its height exceeds the greatest `usize`
abbrev pub IsTooHighFirst : StreamSettings → CompactConfig → List (List (List ℕ)) → ℕ → List (List (List ℕ)) → Type 0
IsTooHighFirst settings config ahead_rows index [] = ⊥
IsTooHighFirst settings config ahead_rows index (row ∷ rest) = 2 ^ 64 ≤ stream_height settings config ahead_rows index row

-- exactly the lines above a row are written, and it is too tall, or an allocation for it failed; no
-- row after it was read, except those that are read ahead
pub record StopsAtRow (stream : StreamRead) (old : Sent) (error : TableError) (new : Sent) : Type 0 where
  pub shown : List (List (List ℕ))
  pub rest : List (List (List ℕ))
  pub sheet : Sheet
  pub begun : IsBegun stream shown rest sheet
  pub taken : length stream.rows ≤ max (ahead stream.settings) (length shown + 1)
  pub cause : ((error ≡ Range) × IsTooHighFirst stream.settings stream.config (rows_ahead stream) (length shown) rest)
      ⊎ ((error ≡ Memory) × (0 < length rest))
  pub sends : Sends old new (text_above sheet (stream_columns stream) (length shown))

-- the sink failed in the top margin, or in the last of some rows or its horizontal line; the lines
-- above that row are written; no row after it was read, except those that are read ahead and the
-- first
pub record StopsInRows (stream : StreamRead) (old : Sent) (error : TableError) (new : Sent) : Type 0 where
  pub shown : List (List (List ℕ))
  pub rest : List (List (List ℕ))
  pub sheet : Sheet
  pub begun : IsBegun stream shown rest sheet
  pub taken : length stream.rows ≤ max (ahead stream.settings) (max 1 (length shown))
  pub stops : StopsBelow (text_before sheet (stream_columns stream) (length shown)) old error new (text_above sheet (stream_columns stream) (length shown))

-- the sink failed below the last row
pub record StopsAtEnd (stream : StreamRead) (old : Sent) (error : TableError) (new : Sent) : Type 0 where
  pub enough : AreEnough stream.settings stream.rows stream.whole
  pub sheet : Sheet
  pub streamed : IsWholeStream stream.settings stream.config stream.rows sheet
  pub stops : StopsBelow (text_above sheet (stream_columns stream) (length (limited stream.settings.rows stream.rows))) old error new (table_text sheet)

-- an error before the first byte: the total width is out of range, or an allocation failed, which
-- happens only if a row was read
pub record StopsBeforeStreaming (stream : StreamRead) (old : Sent) (error : TableError) (new : Sent) : Type 0 where
  pub same : new ≡ old
  pub cause : ((error ≡ Range) × AreSniffed stream.settings stream.rows stream.whole × IsFilled stream.settings stream.rows
      × (2 ^ 64 ≤ stream_total stream.settings stream.config (rows_ahead stream))) ⊎ ((error ≡ Memory) × (0 < length stream.rows))

-- the table of the rows that were read was written
pub record StreamSends (stream : StreamRead) (old new : Sent) : Type 0 where
  pub enough : AreEnough stream.settings stream.rows stream.whole
  pub sheet : Sheet
  pub streamed : IsWholeStream stream.settings stream.config stream.rows sheet
  pub sends : Sends old new (table_text sheet)

-- why a stream stops
abbrev pub StreamStops : StreamRead → Sent → TableError → Sent → Type 0
StreamStops stream old error new =
    StopsBeforeStreaming stream old error new
    ⊎ (StopsAtRow stream old error new ⊎ (StopsInRows stream old error new ⊎ StopsAtEnd stream old error new))

-- what a call that prints a stream leaves for the rows that were read, by its result
abbrev pub Streams : {T : Type 0} → StreamRead → Sent → Result T TableError → Sent → Type 0
Streams stream old (Ok _) new = StreamSends stream old new
Streams stream old (Err error) new = StreamStops stream old error new

-- the cells of the first rows that a source gives, and whether these are all
abbrev pub Came : {A : Type 0} → (List (List A) → Bool → Type 0) → (A → List ℕ) → List (List (List ℕ)) → Bool → Type 0
Came {A} begins text rows whole = (cells : List (List A)) × begins cells whole × (rows ≡ map (map text) cells)

-- a stream that is printed while its rows are read: its settings, and which first rows may come
-- from its source, with whether these are all
pub record StreamSource : Type 1 where
  pub settings : StreamSettings
  pub config : CompactConfig
  pub comes : List (List (List ℕ)) → Bool → Type 0

-- what a call that prints a source leaves: some rows were read first, as many as were needed, and
-- `streams` says what was written of them
pub record PrintsStream {T : Type 0} (from : StreamSource) (old : Sent) (result : Result T TableError) (new : Sent) : Type 0 where
  pub rows : List (List (List ℕ))
  pub whole : Bool
  pub came : from.comes rows whole
  pub permitted : ArePermitted from.settings rows
  pub streams : Streams (record { settings = from.settings; config = from.config; rows = rows; whole = whole }) old result new

-- what such a call leaves in the writer that it prints to
abbrev pub BuildsStream : {T : Type 0} → StreamSource → Option (List ℕ) → Result T TableError → Option (List ℕ) → Type 0
BuildsStream from old result new =
    (byte : ℕ) × PrintsStream from (writer_before old) result (writer_after result (known_since old new) byte)
