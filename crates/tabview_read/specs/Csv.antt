-- What rows of comma-separated values give, and the records that they are made of. A text is the list of its bytes.
use Rattle.std.specs.Prelude.{◌≡◌, ◌<◌, ◌-◌, ◌⊎◌, ℕ, Bool, true, false, List, [], ◌∷◌, Option, Some, None, is_some, map, option_map}
use Rattle.std.specs.Str.Lossy.{utf8_lossy}
use Rattle.csv.specs.Reading.{ReadRecord, Ready, default_config, expected_len, is_flexible, reader_config, reader_state, reader_trim, source_of, strip_bom}
use Rattle.csv.specs.Records.{fields_of}
use Rattle.csv.specs.declared.parser.State.TheVariants as state
use Rattle.csv.specs.declared.reader.Reader.{Reader}
use Rattle.csv.specs.declared.reader.Trim.TheVariants as trim
use Rattle.tabview_read.specs.declared.csv_records.CsvOptions.{CsvOptions}
use Rattle.tabview_read.specs.declared.csv_records.CsvRecords.{CsvRecords}
use Rattle.tabview_read.specs.declared.csv_rows.CsvRows.{CsvRows}
use Rattle.tabview_read.specs.declared.row.Row.{Row}
use Rattle.tabview_read.specs.declared.watched.Watched.{Watched}

-- the cells of a record: its fields, in which invalid UTF-8 may become U+FFFD
abbrev pub record_cells : Bool → List (List ℕ) → List (List ℕ)
record_cells false fields = fields
record_cells true fields = map utf8_lossy fields

-- whether invalid UTF-8 becomes U+FFFD
abbrev pub is_lossy : {R : Type 0} → CsvRecords R → Bool
is_lossy s = is_some s.bytes

-- each record that is read is given: its fields aren't trimmed, and the reader takes no names
pub record HasDefaultSyntax {R : Type 0} (r : Reader R) : Type 0 where
  pub trim : reader_trim r ≡ trim.None
  pub ready : Ready r

-- the next record of the text has these fields, or there is none
pub record ReadsFields {R : Type 0} (rem : R → Option (List ℕ)) (old : Reader R) (found : Bool) (fields : List (List ℕ)) (new : Reader R) : Type 0 where
  pub read : ReadRecord rem old new found fields
  pub plain : HasDefaultSyntax new
  pub flexible : is_flexible new ≡ is_flexible old

-- the same with U+FFFD for invalid UTF-8
pub record ReadsLossy {R : Type 0} (rem : R → Option (List ℕ)) (old : Reader R) (found : Bool) (cells : List (List ℕ)) (new : Reader R) : Type 0 where
  pub fields : List (List ℕ)
  pub reads : ReadsFields rem old found fields new
  pub are : found ≡ true → cells ≡ map utf8_lossy fields

-- the bytes of an input that is watched
abbrev pub watched_bytes : {R : Type 0} → (R → Option (List ℕ)) → Watched R → Option (List ℕ)
watched_bytes rem s = rem s.input

-- the next record has these cells, or there is none
pub record ReadsCells {R : Type 0} (rem : R → Option (List ℕ)) (from : CsvRecords R) (found : Bool) (cells : List (List ℕ)) (to : CsvRecords R) : Type 0 where
  pub fields : List (List ℕ)
  pub reads : ReadsFields (watched_bytes rem) from.reader found fields to.reader
  pub are : found ≡ true → cells ≡ record_cells (is_lossy from) fields
  pub names : to.names ≡ from.names
  pub lossy : is_lossy to ≡ is_lossy from

-- a reader before the first record of an input, with these options
pub record IsCsvReader {R : Type 0} (rem : R → Option (List ℕ)) (o : CsvOptions) (input : R) (r : Reader (Watched R)) : Type 0 where
  pub config : reader_config r ≡ record default_config { delimiter = o.delimiter }
  pub flexible : is_flexible r ≡ o.fill
  pub expected : expected_len r ≡ None
  pub state : reader_state r ≡ state.StartRecord
  pub source : source_of (watched_bytes rem) r ≡ option_map strip_bom (rem input)

-- records before the first one of an input
pub record BeginsCsv {R : Type 0} (rem : R → Option (List ℕ)) (o : CsvOptions) (input : R) (s : CsvRecords R) : Type 0 where
  pub plain : HasDefaultSyntax s.reader
  pub lossy : is_lossy s ≡ o.lossy
  pub names : s.names ≡ None
  pub reader : IsCsvReader rem o input s.reader

-- ---- rows

-- the next record is read ahead, or there is none. Blank lines before it are rows in a text of one
-- column alone
pub record IsAhead {R : Type 0} (rem : R → Option (List ℕ)) (from to : CsvRows R) : Type 0 where
  pub reads : ReadsCells rem from.records to.has_next (fields_of to.next) to.records
  pub single : 0 < to.blank → from.width ≡ Some 1

-- a row is waiting, or else the next record is read ahead
abbrev pub IsReady : {R : Type 0} → (R → Option (List ℕ)) → CsvRows R → CsvRows R → Type 0
IsReady rem from to = (to ≡ from) ⊎ ((from.blank ≡ 0) × (from.has_next ≡ false) × IsAhead rem from to)

-- a row of a blank line: one cell, which is empty
pub record IsBlank {R : Type 0} (from : CsvRows R) (row : Row) (to : CsvRows R) : Type 0 where
  pub waits : 0 < from.blank
  pub are : fields_of row.cells ≡ [] ∷ []
  pub rest : to ≡ record from { blank = from.blank - 1 }

-- a row of the record that was read ahead, or the end if there was none
pub record IsNext {R : Type 0} (from : CsvRows R) (found : Bool) (row : Row) (to : CsvRows R) : Type 0 where
  pub waits : from.blank ≡ 0
  pub has : from.has_next ≡ found
  pub are : fields_of row.cells ≡ fields_of from.next
  pub records : to.records ≡ from.records
  pub none : to.has_next ≡ false

-- a blank line, the next record, or the end. No cell is null
pub record Gives {R : Type 0} (from : CsvRows R) (found : Bool) (row : Row) (to : CsvRows R) : Type 0 where
  pub given : ((found ≡ true) × IsBlank from row to) ⊎ IsNext from found row to
  pub nulls : row.nulls.items ≡ []

-- what a call of `read` gives, once a row is waiting
abbrev pub CsvGives : {R : Type 0} → (R → Option (List ℕ)) → CsvRows R → Option Row → CsvRows R → Type 0
CsvGives {R} rem from None to = (ready : CsvRows R) × (row : Row) × IsReady rem from ready × Gives ready false row to
CsvGives {R} rem from (Some row) to = (ready : CsvRows R) × IsReady rem from ready × Gives ready true row to
