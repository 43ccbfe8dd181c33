-- Rows of comma-separated values, and the cells of their records.
use Rattle.std.proofs.Common.{◌≡◌, ℕ, zero, suc, ◌+◌, List, [], ◌∷◌, ◌++◌, Bool, Option, Some, None, false, inl, inr, map, option_map, refl, sym, ap, take, ◌∙◌, arith}
use Rattle.std.specs.Prelude.{if◌then◌else◌, is_some, true, Result, Ok, Err, IfOk}
use Rattle.std.specs.Str.Lossy.{utf8_lossy}
use Rattle.std.proofs.lemmas.List.{map-append}
use Rattle.csv.specs.Reading.{builder_config, builder_is_flexible, builder_names_headers, builder_trim, default_config, expected_len, is_flexible, names_headers, Ready, ReadRecord, took_first, reader_config, reader_headers, reader_state, reader_trim, source_of, strip_bom, with_config, with_flexible, with_names_headers}
use Rattle.csv.specs.Records.{Row, field_at, fields_of}
use Rattle.csv.specs.declared.parser.Config.{Config}
use Rattle.csv.specs.declared.parser.State.TheVariants as state
use Rattle.csv.specs.declared.record.ByteRecordIter.{ByteRecordIter}
use Rattle.csv.specs.declared.reader.Reader.{Reader}
use Rattle.csv.specs.declared.reader.ReaderBuilder.{ReaderBuilder}
use Rattle.csv.specs.declared.reader.Trim.TheVariants as trim
use Rattle.tabview_read.specs.Csv.{BeginsCsv, CsvGives, Gives, HasDefaultSyntax, IsReady, ReadsCells, ReadsFields, ReadsLossy, record_cells, is_lossy, watched_bytes}
use Rattle.tabview_read.specs.declared.csv_records.CsvOptions.{CsvOptions}
use Rattle.tabview_read.specs.declared.csv_records.CsvRecords.{CsvRecords}
use Rattle.tabview_read.specs.declared.csv_rows.CsvRows.{CsvRows}
use Rattle.tabview_read.specs.declared.row.Row.{Row as GivenRow}

-- the settings of a builder after three calls
built : (a b c d : ReaderBuilder) (fill : Bool) (delimiter : ℕ) → b ≡ with_names_headers a false → c ≡ with_flexible b fill
    → d ≡ with_config c (record (builder_config c) { delimiter = delimiter })
    → d ≡ record a { has_headers = false; flexible = fill; config = record a.config { delimiter = delimiter } }
built a b c d fill delimiter e f g =
    g ∙ ap (λ k. with_config k (record (builder_config k) { delimiter = delimiter })) (f ∙ ap (λ k. with_flexible k fill) e)

pub csv-begins : {R : Type 0} (rem : R → Option (List ℕ)) (o : CsvOptions) (input : R) (s : CsvRecords R) (a b c d : ReaderBuilder)
    → builder_config a ≡ default_config → builder_trim a ≡ trim.None
    → b ≡ with_names_headers a false → c ≡ with_flexible b o.fill → d ≡ with_config c (record (builder_config c) { delimiter = o.delimiter })
    → reader_config s.reader ≡ builder_config d → names_headers s.reader ≡ builder_names_headers d → is_flexible s.reader ≡ builder_is_flexible d → reader_trim s.reader ≡ builder_trim d
    → reader_headers s.reader ≡ None → expected_len s.reader ≡ None → reader_state s.reader ≡ state.StartRecord → source_of (watched_bytes rem) s.reader ≡ option_map strip_bom (rem input)
    → is_lossy s ≡ o.lossy → s.names ≡ None → BeginsCsv rem o input s
csv-begins rem o input s a b c d config trims e f g config2 named flexible trims2 headers expected state source lossy names =
    let all = built a b c d o.fill o.delimiter e f g in
    record {
      plain = record {
        trim = trims2 ∙ ap builder_trim all ∙ trims;
        ready = inr (inr (named ∙ ap builder_names_headers all, headers));
      };
      lossy = lossy;
      names = names;
      reader = record {
        config = config2 ∙ ap builder_config all ∙ ap {A = Config} {B = Config} (λ k. record k { delimiter = o.delimiter }) config;
        flexible = flexible ∙ ap builder_is_flexible all;
        expected = expected;
        state = state;
        source = source;
      };
    }

some-same : {X : Type 0} {x y : X} → Some x ≡ Some y → x ≡ y
some-same h = cc

-- one more field
pub taken-more : (xs : List (List ℕ)) (i : ℕ) (x : List ℕ) → field_at xs i ≡ Some x → take (i + 1) xs ≡ take i xs ++ x ∷ []
unfolding field_at
taken-more [] i x h = absurd (cc)
taken-more (y ∷ ys) zero x h = ap (λ k. k ∷ []) (some-same h)
taken-more (y ∷ ys) (suc i) x h =
    let e : suc i + 1 ≡ suc (i + 1) = omega arith in
    ap (λ n. take n (y ∷ ys)) e ∙ ap (λ l. y ∷ l) (taken-more ys i x h)

-- no further one
pub taken-all : (xs : List (List ℕ)) (i : ℕ) → field_at xs i ≡ None → take i xs ≡ xs
unfolding field_at
taken-all [] zero h = refl
taken-all [] (suc i) h = refl
taken-all (y ∷ ys) zero h = absurd (cc)
taken-all (y ∷ ys) (suc i) h = ap (λ l. y ∷ l) (taken-all ys i h)

-- one more cell with U+FFFD
pub lossy-more : (bytes : Row) (a b : ByteRecordIter) (cells more : List (List ℕ)) (x text : List ℕ)
    → a.row.now ≡ bytes → b.row ≡ a.row → Some x ≡ field_at (fields_of a.row.now) a.at → b.at ≡ a.at + 1
    → cells ≡ map utf8_lossy (take a.at (fields_of bytes)) → text ≡ utf8_lossy x → more ≡ cells ++ text ∷ []
    → (b.row.now ≡ bytes) × (more ≡ map utf8_lossy (take b.at (fields_of bytes)))
lossy-more bytes a b cells more x text row same found at done is added =
    let here : field_at (fields_of bytes) a.at ≡ Some x = sym (found ∙ ap (λ r. field_at (fields_of r) a.at) row) in (
      ap (λ r. r.now) same ∙ row,
      added ∙ ap (λ l. l ++ text ∷ []) done ∙ ap (λ t. map utf8_lossy (take a.at (fields_of bytes)) ++ t ∷ []) is
          ∙ sym (map-append utf8_lossy (take a.at (fields_of bytes)) (x ∷ []))
          ∙ sym (ap (map utf8_lossy) (ap (λ n. take n (fields_of bytes)) at ∙ taken-more (fields_of bytes) a.at x here)),
    )

pub lossy-all : (bytes : Row) (a : ByteRecordIter) (cells : List (List ℕ)) → a.row.now ≡ bytes → None ≡ field_at (fields_of a.row.now) a.at
    → cells ≡ map utf8_lossy (take a.at (fields_of bytes)) → cells ≡ map utf8_lossy (fields_of bytes)
lossy-all bytes a cells row end done =
    done ∙ ap (map utf8_lossy) (taken-all (fields_of bytes) a.at (sym (end ∙ ap (λ r. field_at (fields_of r) a.at) row)))

-- ---- what reads give
pub reads_fields : {R : Type 0} (rem : R → Option (List ℕ)) (old new : Reader R) (found : Bool) (fields : List (List ℕ))
    → (reader_trim old ≡ trim.None → Ready old → ReadRecord rem old new found fields) → (reader_trim old ≡ trim.None → took_first new ≡ true)
    → is_flexible new ≡ is_flexible old → HasDefaultSyntax old → ReadsFields rem old found fields new
reads_fields rem old new found fields reads first flexible plain =
    let read = reads plain.trim plain.ready in
    record {
      read = read;
      plain = record { trim = read.3 ∙ plain.trim; ready = inl (first plain.trim) };
      flexible = flexible;
    }

pub reads_lossy : {R : Type 0} (rem : R → Option (List ℕ)) (old new : Reader R) (fields cells : List (List ℕ))
    → (reader_trim old ≡ trim.None → Ready old → ReadRecord rem old new true fields) → (reader_trim old ≡ trim.None → took_first new ≡ true)
    → is_flexible new ≡ is_flexible old → cells ≡ map utf8_lossy fields → HasDefaultSyntax old → ReadsLossy rem old true cells new
reads_lossy rem old new fields cells reads first flexible are plain =
    record { fields = fields; reads = reads_fields rem old new true fields reads first flexible plain; are = λ _. are }

pub reads_none : {R : Type 0} (rem : R → Option (List ℕ)) (old new : Reader R) (fields cells : List (List ℕ))
    → (reader_trim old ≡ trim.None → Ready old → ReadRecord rem old new false fields) → (reader_trim old ≡ trim.None → took_first new ≡ true)
    → is_flexible new ≡ is_flexible old → HasDefaultSyntax old → ReadsLossy rem old false cells new
reads_none rem old new fields cells reads first flexible plain =
    record { fields = fields; reads = reads_fields rem old new false fields reads first flexible plain; are = λ never. absurd (cc) }

pub cells_text : {R : Type 0} (rem : R → Option (List ℕ)) (from to : CsvRecords R) (found : Bool) (cells : List (List ℕ))
    → from.bytes ≡ None → to.bytes ≡ None → to.names ≡ from.names → ReadsFields (watched_bytes rem) from.reader found cells to.reader → ReadsCells rem from found cells to
cells_text rem from to found cells old new names reads = record {
  fields = cells;
  reads = reads;
  are = λ _. sym (ap (λ b. record_cells (is_some b) cells) old);
  names = names;
  lossy = ap is_some new ∙ sym (ap is_some old);
}

pub cells_lossy : {R : Type 0} (rem : R → Option (List ℕ)) (from to : CsvRecords R) (found : Bool) (cells : List (List ℕ))
    → is_lossy from ≡ true → is_lossy to ≡ true → to.names ≡ from.names → ReadsLossy (watched_bytes rem) from.reader found cells to.reader → ReadsCells rem from found cells to
cells_lossy rem from to found cells old new names reads = record {
  fields = reads.fields;
  reads = reads.reads;
  are = λ is. reads.are is ∙ sym (ap (λ b. record_cells b reads.fields) old);
  names = names;
  lossy = new ∙ sym old;
}

-- ---- rows
pub csv_gives : {R : Type 0} (rem : R → Option (List ℕ)) (from ready : CsvRows R) (found : Bool) (row : GivenRow) (to : CsvRows R)
    → IsReady rem from ready → Gives ready found row to → CsvGives rem from (if found then Some row else None) to
csv_gives rem from ready true row to is gives = (ready, is, gives)
csv_gives rem from ready false row to is gives = (ready, row, is, gives)

pub csv_read : {R E : Type 0} (rem : R → Option (List ℕ)) (from ready : CsvRows R) (result : Result Bool E) (row : GivenRow) (to : CsvRows R)
    → (HasDefaultSyntax from.records.reader → IsReady rem from ready) → IfOk result (λ found. Gives ready found row to)
    → IfOk result (λ found. HasDefaultSyntax from.records.reader → CsvGives rem from (if found then Some row else None) to)
csv_read rem from ready (Ok found) row to is gives = λ plain. csv_gives rem from ready found row to (is plain) gives
csv_read rem from ready (Err e) row to is gives = tt
