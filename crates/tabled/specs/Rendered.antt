-- What a call that prints the table of a plan leaves in its sink.
use Rattle.std.specs.Prelude.{◌≡◌, ◌⊎◌, ◌++◌, true, false, List, ℕ, Result, Ok, Err}
use Rattle.std.specs.Io.KnownBytes.{Appends}
use Rattle.tabled_base.specs.declared.error.TableError.{TableError}
use Rattle.tabled_base.specs.declared.error.TableError.TheVariants.{Memory, Range}
use Rattle.tabled_grid.specs.Picture.{table_text}
use Rattle.tabled_grid.specs.Printed.{IsOutOfRange, IsPrintableSheet}
use Rattle.tabled_line.specs.Sent.{IsCause, Sends, Sent}
use Rattle.tabled_size.specs.Holds.{Holds, IsSized}
use Rattle.tabled_size.specs.Sheet.{Sheet, is_empty}
use Rattle.tabled_table.specs.TableSheet.{new_sheet}
use Rattle.tabled.specs.declared.arguments.Plan.{Plan}
use Rattle.tabled.specs.declared.arguments.Plan.TheVariants.{Streamed}
use Rattle.tabled.specs.Headline.{IsBestOf, IsBestPlanned}
use Rattle.tabled.specs.Planned.{Cells, IsPlanned, IsPlannedOf}

-- ---- any planned table

-- the text of the table was added; it is empty or both of its totals are in range
pub record SendsTable (planned best : Sheet → Type 0) (old new : Sent) : Type 0 where
  pub table : Sheet
  pub is_planned : planned table
  pub is_best : best table
  pub is_printable : (is_empty table.cells ≡ true) ⊎ IsPrintableSheet table
  pub sends : Sends old new (table_text table)

-- both totals are in range, and a beginning of the text was added; then the sink failed or the call
-- stopped with an error of `halts`
pub record BreaksOff (planned best : Sheet → Type 0) (halts : TableError → Type 0) (old : Sent) (error : TableError) (new : Sent) : Type 0 where
  pub table : Sheet
  pub is_planned : planned table
  pub is_best : best table
  pub is_printable : IsPrintableSheet table
  pub front : List ℕ
  pub rest : List ℕ
  pub whole : front ++ rest ≡ table_text table
  pub added : Appends old.bytes new.bytes front
  pub cause : IsCause error old.grows old.failures new.failures ⊎ halts error

-- a total of the whole table, or of the planned one, passes `usize::MAX`
abbrev pub PassesRange : (Sheet → Type 0) → Sheet → Type 0
PassesRange planned whole = IsOutOfRange whole ⊎ ((t : Sheet) × planned t × IsOutOfRange t)

-- a planned table: `planned` says which table the plan makes of `whole`, `best` what else holds of
-- it, and `halts` at which errors its text may break off without a failure of the sink
pub record PlannedTable : Type 1 where
  pub planned : Sheet → Type 0
  pub best : Sheet → Type 0
  pub halts : TableError → Type 0
  pub whole : Sheet

-- on `Ok` all of the text was added. On `Err` either an allocation failed before the first byte, or
-- the table isn't empty and a total is out of range, with nothing added, or the text breaks off
abbrev pub PrintsPlanned : {T : Type 0} → PlannedTable → Sent → Result T TableError → Sent → Type 0
PrintsPlanned table old (Ok _) new = SendsTable table.planned table.best old new
PrintsPlanned table old (Err error) new =
    ((error ≡ Memory) × (new ≡ old))
    ⊎ ((is_empty table.whole.cells ≡ false)
    × (((error ≡ Range) × (new ≡ old) × PassesRange table.planned table.whole)
    ⊎ BreaksOff table.planned table.best table.halts old error new))

-- ---- the table of a plan

-- only a streamed table can break off without a failure of the sink: an allocation for a cell
-- failed
abbrev pub Halts : Plan → TableError → Type 0
Halts plan error = (plan ≡ Streamed) × (error ≡ Memory)

-- what rendering cells under a plan leaves: it prints the table of the plan, with all properties of
-- `IsBestPlanned`
abbrev pub IsRendered : {T : Type 0} → Plan → Cells → Sent → Result T TableError → Sent → Type 0
IsRendered plan cells old result new = PrintsPlanned (record {
  planned = IsPlanned plan cells;
  best = IsBestPlanned plan cells;
  halts = Halts plan;
  whole = new_sheet cells;
}) old result new

-- what rendering a whole table under any settings leaves, if it is measured before it is printed
abbrev pub IsRenderedOf : {T : Type 0} → Plan → Sheet → Sent → Result T TableError → Sent → Type 0
IsRenderedOf plan whole old result new = PrintsPlanned (record {
  planned = IsPlannedOf plan whole;
  best = IsBestOf plan whole;
  halts = λ error. ⊥;
  whole = whole;
}) old result new

-- a table that a plan makes of a whole one, with all properties of `IsBestOf`, and ready to be
-- printed
pub record IsReadyOf (plan : Plan) (whole t : Sheet) : Type 0 where
  pub planned : IsPlannedOf plan whole t
  pub best : IsBestOf plan whole t
  pub same : is_empty t.cells ≡ is_empty whole.cells
  pub sized : IsSized t
  pub holds : Holds t
