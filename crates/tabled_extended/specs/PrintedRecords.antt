-- What printing an `ExtendedTable` leaves in a sink.
use Rattle.std.specs.Prelude.{◌≡◌, ◌⊎◌, ℕ, ◌+◌, ◌^◌, ◌<◌, ◌≤◌, List, Result, Ok, Err, length, Bool}
use Rattle.tabled_base.specs.Cells.{row_texts}
use Rattle.tabled_base.specs.declared.error.TableError.{TableError}
use Rattle.tabled_base.specs.declared.error.TableError.TheVariants.{Memory, Range}
use Rattle.tabled_line.specs.Leading.{LineSends, LineStops}
use Rattle.tabled_line.specs.Sent.{Sent, Sends, Stops}
use Rattle.tabled_extended.specs.RecordLines.{AreRecordLines, text_of, widest, widest_value}
use Rattle.tabled_extended.specs.declared.extended_table.ExtendedTable.{ExtendedTable}

-- what is printed: the fields and the records, which labels the record at an index may have, and
-- for which indices the template may fail
pub record RecordSheet : Type 1 where
  pub labels : ℕ → List ℕ → Type 0
  pub fails : ℕ → Type 0
  pub fields : List (List ℕ)
  pub records : List (List (List ℕ))

-- the sheet of a table, by the labels that its template may return and the indices for which it may
-- fail
abbrev pub sheet_of : {F : Type 0} → (F → ℕ → List ℕ → Type 0) → (F → ℕ → Type 0) → ExtendedTable F → RecordSheet
sheet_of labels fails table = record {
  labels = labels table.template;
  fails = fails table.template;
  fields = table.fields.items;
  records = row_texts table.records.items;
}

-- there is a record, and the columns of a field, a bar and a value pass `usize::MAX`
pub record IsTooWide (fields : List (List ℕ)) (records : List (List (List ℕ))) : Type 0 where
  pub some : 0 < length records
  pub past : 2 ^ 64 ≤ widest fields + 3 + widest_value records

-- the whole text was added
pub record PrintsAll (sheet : RecordSheet) (old new : Sent) : Type 0 where
  pub parts : List (List (List ℕ))
  pub whole : length parts ≡ length sheet.records
  pub lines : AreRecordLines sheet.labels sheet.fields sheet.records parts
  pub sends : Sends old new (text_of parts)

-- the template failed with `Memory` where it may fail, and exactly the records before were printed
pub record EndsBefore (sheet : RecordSheet) (old : Sent) (error : TableError) (new : Sent) : Type 0 where
  pub parts : List (List (List ℕ))
  pub within : length parts < length sheet.records
  pub refused : sheet.fails (length parts)
  pub lines : AreRecordLines sheet.labels sheet.fields sheet.records parts
  pub memory : error ≡ Memory
  pub sends : Sends old new (text_of parts)

-- the sink failed with a cause of its own, and a beginning of some first records was printed
pub record EndsWithin (sheet : RecordSheet) (old : Sent) (error : TableError) (new : Sent) : Type 0 where
  pub parts : List (List (List ℕ))
  pub some : 0 < length parts
  pub within : length parts ≤ length sheet.records
  pub lines : AreRecordLines sheet.labels sheet.fields sheet.records parts
  pub stops : Stops old error new (text_of parts)

-- on `Ok` the whole text was added; on `Err` the table is too wide and nothing was written, or the
-- template or the sink failed
abbrev pub PrintsRecords : {T : Type 0} → RecordSheet → Sent → Result T TableError → Sent → Type 0
PrintsRecords sheet old (Ok _) new = (IsTooWide sheet.fields sheet.records → ⊥) × PrintsAll sheet old new
PrintsRecords sheet old (Err e) new =
    ((e ≡ Range) × IsTooWide sheet.fields sheet.records × (new ≡ old))
    ⊎ ((IsTooWide sheet.fields sheet.records → ⊥) × (EndsBefore sheet old e new ⊎ EndsWithin sheet old e new))

-- ---- Of private steps: no public call promises this.

-- one record that is printed: which labels it may have, whether the template may fail for it, and
-- its lines under a label
pub record OneRecord : Type 1 where
  pub labels : List ℕ → Type 0
  pub fails : Type 0
  pub lines : List ℕ → List (List ℕ)

-- the lines of one record with a label of the template, or nothing if the template failed where it
-- may
abbrev pub PrintsRecord : OneRecord → Sent → Bool → Result (Unit {0}) TableError → Sent → Bool → Type 0
PrintsRecord one old begun (Ok _) new begun' = (label : List ℕ) × one.labels label × LineSends old begun new begun' (one.lines label)
PrintsRecord one old begun (Err e) new begun' =
    ((e ≡ Memory) × one.fails × (new ≡ old)) ⊎ ((label : List ℕ) × one.labels label × LineStops old begun e new (one.lines label))
