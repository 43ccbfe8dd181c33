-- What printing records one below the other leaves in a sink.
use Rattle.std.specs.Prelude.{◌≡◌, ◌⊎◌, ℕ, ◌+◌, ◌<◌, ◌≤◌, ◌^◌, List, [], Option, Some, None, Result, Ok, Err, length, min, slice_index_or}
use Rattle.std.specs.List.{All, AllZip, join_with_byte}
use Rattle.std.specs.Str.{IsUtf8}
use Rattle.tabled_base.specs.declared.error.TableError.{TableError}
use Rattle.tabled_base.specs.declared.error.TableError.TheVariants.{Memory, Range}
use Rattle.tabled_line.specs.Sent.{Sent, Sends, Stops}
use Rattle.tabled_text.specs.Fitting.{FitsIn}
use Rattle.tabview_records.specs.Narrowed.{IsNarrowedText}
use Rattle.tabview_records.specs.Records.{IsRecord, names_of, record_layout, records_of, widest, widest_cell}
use Rattle.tabview_records.specs.declared.error.PrintError.{PrintError}
use Rattle.tabview_records.specs.declared.error.PrintError.TheVariants.{Table, TooNarrow}
use Rattle.tabview_records.specs.declared.expanded.RecordOptions.{RecordOptions}
use Rattle.tabview_records.specs.declared.expanded.TheConstants.{LEAST_COLUMNS}
use Rattle.tabview_records.specs.declared.layout.RecordLayout.{RecordLayout}

-- ---- the records of a sheet

-- the texts of the first records, numbered from 1
pub record AreRecords (layout : RecordLayout) (names : List (List ℕ)) (rows : List (List (List ℕ))) (parts : List (List ℕ)) : Type 0 where
  pub within : length parts ≤ length rows
  pub each : (index : ℕ) → index < length parts
      → IsRecord layout names (index + 1) (slice_index_or rows index []) (slice_index_or parts index [])

-- all records were sent, with a line feed between every two
pub record SendsRecords (layout : RecordLayout) (names : List (List ℕ)) (rows : List (List (List ℕ))) (old new : Sent) : Type 0 where
  pub parts : List (List ℕ)
  pub whole : length parts ≡ length rows
  pub records : AreRecords layout names rows parts
  pub sends : Sends old new (join_with_byte 10 parts)

-- an allocation failed for a record, and exactly the records before it were sent
pub record EndsBefore (layout : RecordLayout) (names : List (List ℕ)) (rows : List (List (List ℕ))) (old : Sent) (error : TableError) (new : Sent) : Type 0 where
  pub parts : List (List ℕ)
  pub fewer : length parts < length rows
  pub records : AreRecords layout names rows parts
  pub memory : error ≡ Memory
  pub sends : Sends old new (join_with_byte 10 parts)

-- the sink failed, and a beginning of some records was sent
pub record EndsWithin (layout : RecordLayout) (names : List (List ℕ)) (rows : List (List (List ℕ))) (old : Sent) (error : TableError) (new : Sent) : Type 0 where
  pub parts : List (List ℕ)
  pub some : 0 < length parts
  pub records : AreRecords layout names rows parts
  pub stops : Stops old error new (join_with_byte 10 parts)

abbrev pub PrintsSheet : {T : Type 0} → RecordLayout → List (List ℕ) → List (List (List ℕ)) → Sent → Result T TableError → Sent → Type 0
PrintsSheet layout names rows old (Ok _) new = SendsRecords layout names rows old new
PrintsSheet layout names rows old (Err e) new = EndsBefore layout names rows old e new ⊎ EndsWithin layout names rows old e new

-- ---- the widths

-- the columns that are enough for records whose widest name takes n columns and the widest value v
abbrev pub least_width : ℕ → ℕ → ℕ
least_width n v = min (n + 3 + v) LEAST_COLUMNS

-- records can be laid out: the width is enough or, if there is none, the lines can be measured
abbrev pub CanLay : Option ℕ → ℕ → ℕ → Type 0
CanLay None n v = n + 3 + v < 2 ^ 64
CanLay (Some w) n v = least_width n v ≤ w

-- why they can't
abbrev pub CannotLay : Option ℕ → ℕ → ℕ → PrintError → Type 0
CannotLay None n v error = (error ≡ Table Range) × (2 ^ 64 ≤ n + 3 + v)
CannotLay (Some w) n v error = (error ≡ TooNarrow (least_width n v)) × (w < least_width n v)

-- ---- the whole call

-- the names are narrowed, and the records printed beside them
pub record PrintsNamed {T : Type 0} (options : RecordOptions) (cells : List (List (List ℕ))) (old : Sent) (result : Result T TableError) (new : Sent) : Type 0 where
  pub layout : RecordLayout
  pub can_lay : CanLay options.width (widest (names_of options.has_header cells)) (widest_cell (records_of options.has_header cells))
  pub laid : layout ≡ record_layout options.width options.cuts (widest (names_of options.has_header cells)) (widest_cell (records_of options.has_header cells))
  pub names : List (List ℕ)
  pub narrowed : AllZip (IsNarrowedText layout.cuts layout.names) (names_of options.has_header cells) names
  pub prints : PrintsSheet layout names (records_of options.has_header cells) old result new
  -- each line of a record takes at most the width, if the cells are texts
  pub fits : (w : ℕ) → options.width ≡ Some w → All (All IsUtf8) cells → (index number : ℕ) (text : List ℕ) → index < length (records_of options.has_header cells)
      → IsRecord layout names number (slice_index_or (records_of options.has_header cells) index []) text → FitsIn w text

-- or they can't be laid out, or an allocation fails before anything is sent
abbrev pub PrintsExpanded : {T : Type 0} → RecordOptions → List (List (List ℕ)) → Sent → Result T PrintError → Sent → Type 0
PrintsExpanded options cells old (Ok x) new = PrintsNamed options cells old (Ok x) new
PrintsExpanded options cells old (Err (Table e)) new =
    (((e ≡ Memory) ⊎ CannotLay options.width (widest (names_of options.has_header cells)) (widest_cell (records_of options.has_header cells)) (Table e)) × (new ≡ old))
    ⊎ PrintsNamed {T = Unit {0}} options cells old (Err e) new
PrintsExpanded options cells old (Err (TooNarrow least)) new =
    CannotLay options.width (widest (names_of options.has_header cells)) (widest_cell (records_of options.has_header cells)) (TooNarrow least) × (new ≡ old)
