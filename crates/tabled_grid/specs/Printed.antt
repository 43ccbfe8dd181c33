-- Which tables can be printed, why others fail, and what a call that prints leaves.
use Rattle.std.specs.Prelude.{◌≡◌, ◌^◌, ◌<◌, ◌≤◌, ◌⊎◌, ℕ, Bool, length, true, false, Result, Ok, Err}
use Rattle.std.specs.List.{join_with_byte}
use Rattle.tabled_base.specs.Cells.{columns}
use Rattle.tabled_base.specs.declared.error.TableError.{TableError}
use Rattle.tabled_base.specs.declared.error.TableError.TheVariants.{Memory, ShortWidths, ShortHeights, Narrow, Range}
use Rattle.tabled_size.specs.Sheet.{Sheet, is_empty}
use Rattle.tabled_size.specs.Totals.{filled_height, filled_width}
use Rattle.tabled_size.specs.Holds.{Holds, IsSized}
use Rattle.tabled_grid.specs.Narrow.{IsFirstNarrow}
use Rattle.tabled_grid.specs.Picture.{filled_picture, table_text}
use Rattle.tabled_line.specs.Sent.{Sent, Sends, Stops, Writes}

-- the totals fit a `usize`
pub record IsInRange (t : Sheet) : Type 0 where
  pub width : filled_width t.config (columns t.cells) t.widths < 2 ^ 64
  pub height : filled_height t.config (length t.cells) t.heights < 2 ^ 64

-- a total passes the greatest `usize`
abbrev pub IsOutOfRange : Sheet → Type 0
IsOutOfRange t =
    (2 ^ 64 ≤ filled_width t.config (columns t.cells) t.widths) ⊎ (2 ^ 64 ≤ filled_height t.config (length t.cells) t.heights)

-- why a table with a row and a column fails: the errors in the order in which they are checked
abbrev pub FailsToPrint : Sheet → TableError → Type 0
FailsToPrint t ShortWidths = length t.widths < columns t.cells
FailsToPrint t ShortHeights = (columns t.cells ≤ length t.widths) × (length t.heights < length t.cells)
FailsToPrint t (Narrow row column) = IsSized t × IsFirstNarrow t row column
FailsToPrint t Range = IsSized t × Holds t × IsOutOfRange t
FailsToPrint t _ = ⊥

-- what a call leaves that writes the picture of a table, with margins of `whole` columns
abbrev pub WritesPicture : {T : Type 0} → Sheet → ℕ → Sent → Result T TableError → Sent → Type 0
WritesPicture t whole old result new = Writes old result new (join_with_byte 10 (filled_picture t whole))

-- a table with a row and a column, whose sizes hold its cells
pub record IsChecked (t : Sheet) : Type 0 where
  pub filled : is_empty t.cells ≡ false
  pub sized : IsSized t
  pub holds : Holds t

-- the table can be printed
pub record IsPrintableSheet (t : Sheet) : Type 0 where
  pub sized : IsSized t
  pub holds : Holds t
  pub in_range : IsInRange t

-- why a call that prints stops. Before anything is written: the table fails, or an allocation for
-- estimates does. Otherwise the table can be printed, and the sink failed after a beginning of the
-- text
abbrev pub Ends : Bool → Sheet → Sent → TableError → Sent → Type 0
Ends estimates t old error new =
    (FailsToPrint t error × (new ≡ old))
    ⊎ (((estimates ≡ true) × (error ≡ Memory) × (new ≡ old)) ⊎ (IsPrintableSheet t × Stops old error new (table_text t)))

-- what a call that prints a table leaves, by its result; it allocates if `estimates` is true. On
-- `Ok` the text of the table was added, and the table is empty or can be printed. A table with no
-- row or no column never fails
abbrev pub Prints : {T : Type 0} → Bool → Sheet → Sent → Result T TableError → Sent → Type 0
Prints estimates t old (Ok _) new = ((is_empty t.cells ≡ true) ⊎ IsPrintableSheet t) × Sends old new (table_text t)
Prints estimates t old (Err error) new = (is_empty t.cells ≡ false) × Ends estimates t old error new
