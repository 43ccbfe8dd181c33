-- Which compact tables can be printed, why others fail, and what a call that prints leaves.
use Rattle.std.specs.Prelude.{◌≡◌, ◌^◌, ◌<◌, ◌≤◌, ◌+◌, ◌⊎◌, ℕ, Bool, false, true, List, [], ◌∷◌, ◌++◌, length, Option, Some, IfSome, Result, Ok, Err}
use Rattle.std.specs.Prelude.{MatchResult, OnErr, OnOk}
use Rattle.tabled_base.specs.declared.error.TableError.{TableError}
use Rattle.tabled_base.specs.declared.error.TableError.TheVariants.{Range, ShortWidths}
use Rattle.tabled_line.specs.Leading.{LineSends}
use Rattle.tabled_line.specs.Sent.{Sent, Sends}
use Rattle.tabled_line.specs.StopsBelow.{StopsBelow}
use Rattle.tabled_line.specs.WriterSent.{known_since, writer_after, writer_before}
use Rattle.tabled_compact.specs.CompactCells.{CompactSheet}
use Rattle.tabled_compact.specs.CompactLines.{compact_text, compact_width, rows_lines, rows_text}
use Rattle.tabled_compact.specs.Shown.{AreEnough, AreWanted, has_rows, in_window, shown_rows, spanned}
use Rattle.tabled_compact.specs.declared.columns.Window.{Window}

-- why printing a table that shows a row fails: a width is missing; or none is, and the total width
-- exceeds the greatest `usize`
abbrev pub FailsToPrintCompact : CompactSheet → TableError → Type 0
FailsToPrintCompact t ShortWidths = length t.widths < t.count
FailsToPrintCompact t Range = (t.count ≤ length t.widths) × (2 ^ 64 ≤ compact_width t)
FailsToPrintCompact t _ = ⊥

-- the table can be printed
pub record IsPrintableCompact (t : CompactSheet) : Type 0 where
  pub sized : t.count ≤ length t.widths
  pub in_range : compact_width t < 2 ^ 64

-- a compact table that is printed while its rows are read: its sheet, the window of the rows that
-- are shown, and which first rows may come from its source, with whether these are all
pub record CompactSource : Type 1 where
  pub sheet : CompactSheet
  pub window : Window
  pub comes : List (List (List ℕ)) → Bool → Type 0

-- on `Ok`: the text of the rows that were read was written, and the source has no more rows or no
-- more are wanted; a table that shows a row can be printed
pub record IsPrinted (from : CompactSource) (old new : Sent) : Type 0 where
  pub rows : List (List (List ℕ))
  pub whole : Bool
  pub came : from.comes rows whole
  pub taken : AreWanted from.sheet.count from.window rows
  pub enough : AreEnough from.sheet.count from.window rows whole
  pub printable : (shown_rows from.sheet.count from.window rows ≡ []) ⊎ IsPrintableCompact from.sheet
  pub sends : Sends old new (compact_text from.sheet (shown_rows from.sheet.count from.window rows))

-- an error before the first byte: the first row that is shown was read, and the table can't be
-- printed
pub record FailsEarly (t : CompactSheet) (w : Window) (rows : List (List (List ℕ))) (old : Sent) (error : TableError) (new : Sent) : Type 0 where
  pub first : length rows ≡ w.skip + 1
  pub cause : FailsToPrintCompact t error
  pub same : new ≡ old

-- the sink failed in the last row that was read, or in the horizontal line or margin above it. The
-- lines of the rows before it were written. `text` is the text of some rows
pub record StopsInRow (text : List (List (List ℕ)) → List ℕ) (rows : List (List (List ℕ))) (old : Sent) (error : TableError) (new : Sent) : Type 0 where
  pub before : List (List (List ℕ))
  pub last : List (List ℕ)
  pub parts : rows ≡ before ++ last ∷ []
  pub stops : StopsBelow (text before) old error new (text rows)

-- what was read of a table: the first rows of its source, and whether these are all
pub record CompactRead : Type 0 where
  pub sheet : CompactSheet
  pub window : Window
  pub rows : List (List (List ℕ))
  pub whole : Bool

-- of these rows, those that are shown
abbrev pub shown_of : CompactRead → List (List (List ℕ)) → List (List (List ℕ))
shown_of read rows = shown_rows read.sheet.count read.window rows

-- the sink failed below the last row, and the source has no more rows or no more are wanted. The
-- lines of all rows were written
pub record StopsAtEnd (read : CompactRead) (old : Sent) (error : TableError) (new : Sent) : Type 0 where
  pub enough : AreEnough read.sheet.count read.window read.rows read.whole
  pub stops : StopsBelow (rows_text read.sheet (shown_of read read.rows)) old error new
      (compact_text read.sheet (shown_of read read.rows))

-- the table can be printed, and the sink failed. No row was read after the one whose lines it
-- didn't take
pub record StopsPrinting (read : CompactRead) (old : Sent) (error : TableError) (new : Sent) : Type 0 where
  pub printable : IsPrintableCompact read.sheet
  pub stops : StopsInRow (λ some. rows_text read.sheet (shown_of read some)) read.rows old error new
      ⊎ StopsAtEnd read old error new

-- on `Err`: a row is shown, and one of these holds
pub record IsEnded (from : CompactSource) (old : Sent) (error : TableError) (new : Sent) : Type 0 where
  pub rows : List (List (List ℕ))
  pub whole : Bool
  pub came : from.comes rows whole
  pub taken : AreWanted from.sheet.count from.window rows
  pub filled : has_rows (shown_rows from.sheet.count from.window rows) ≡ true
  pub ends : FailsEarly from.sheet from.window rows old error new
      ⊎ StopsPrinting (record { sheet = from.sheet; window = from.window; rows = rows; whole = whole }) old error new

-- what a call that prints a compact table leaves
abbrev pub PrintsCompact : {T : Type 0} → CompactSource → Sent → Result T TableError → Sent → Type 0
PrintsCompact from old (Ok _) new = IsPrinted from old new
PrintsCompact from old (Err error) new = IsEnded from old error new

-- what such a call leaves in the writer that it prints to
abbrev pub BuildsCompact : {T : Type 0} → CompactSource → Option (List ℕ) → Result T TableError → Option (List ℕ) → Type 0
BuildsCompact from old result new =
    (byte : ℕ) × PrintsCompact from (writer_before old) result (writer_after result (known_since old new) byte)

-- ---- Of private steps: no public call promises this.

-- the rows were read, all of them or as many as the window spans, and their lines were written; or
-- the sink failed in the last of them, which is shown
pub record PutsRows {T : Type 0} (t : CompactSheet) (w : Window) (old : Sent) (result : Result T TableError)
    (new : Sent) (begun : Bool) (rows : List (List (List ℕ))) (whole : Bool) : Type 0 where
  pub taken : IfSome (spanned w.skip w.limit) (λ most. length rows ≤ most)
  pub enough : OnOk result ((whole ≡ true) ⊎ (spanned w.skip w.limit ≡ Some (length rows)))
  pub filled : OnErr result (has_rows (in_window w rows) ≡ true)
  pub lines : MatchResult result (λ _. LineSends old false new begun (rows_lines t (in_window w rows)))
      (λ error. StopsInRow (λ some. rows_text t (in_window w some)) rows old error new)
