-- Names, cells and fields that are read.
use Rattle.std.proofs.Common.{IfOk, List, Ok, Err, Option, Result, [], refl, map, append_assoc, string_bytes, subst, sym, ℕ, ◌++◌, ◌∷◌, ◌≡◌, ◌∙◌, ap}
use Rattle.std.proofs.lemmas.List.{map-append}
use Rattle.std.proofs.lemmas.Slice.Zip.{all_zipped_more}
use Rattle.std.specs.List.{AllZip}
use Rattle.std.specs.declared.alloc.Global.{Global}
use Rattle.std.specs.declared.string.String.{String}
use Rattle.std.specs.declared.vec.Vec.{Vec}
use Rattle.serde.specs.Event.{Event, field_key, variant_key, key_begins, key_ends, seq_begins, seq_ends, map_begins, map_ends, flattens, nothing}
use Rattle.serde.specs.Spelling.{spelled}
use Rattle.serde.specs.declared.name.Case.{Case}
use Rattle.serde.specs.declared.name.NameKind.TheVariants.{Field, Variant}
use Rattle.tabled_serde.specs.Reader.{FieldRead, FieldsRead, bytes_of}
use Rattle.tabled_serde.specs.Records.{AreFields, AreRecord, IsCell, IsName, IsScalar, IsText, field, joined, key, list, one, variant}
use Rattle.tabled_serde.specs.Records.{and_field, and_flattened, and_nothing}
use Rattle.tabled_serde.specs.declared.reader.Record.{Record}

module _ {E : Type 0} (rest : List Event) where
  pub field-read : (r : Result (String Global) E) (name : List ℕ) (case : Case) → IfOk r (λ t. string_bytes t ≡ spelled case Field name)
      → IfOk r (λ t. (events : List Event) × IsName events (string_bytes t) × (field_key name case ∷ rest ≡ events ++ rest))
  field-read (Ok t) name case h = (field_key name case ∷ [], subst (λ n. IsName (field_key name case ∷ []) n) (sym h) field, refl)
  field-read (Err e) name case h = tt

  pub variant-read : (r : Result (String Global) E) (name : List ℕ) (case : Case) → IfOk r (λ t. string_bytes t ≡ spelled case Variant name)
      → IfOk r (λ t. (events : List Event) × IsName events (string_bytes t) × (variant_key name case ∷ rest ≡ events ++ rest))
  variant-read (Ok t) name case h = (variant_key name case ∷ [], subst (λ n. IsName (variant_key name case ∷ []) n) (sym h) variant, refl)
  variant-read (Err e) name case h = tt

  pub key-read : (r : Result (String Global) E) (after : List Event)
      → IfOk r (λ t. (e : Event) × IsScalar e (string_bytes t) × (rest ≡ e ∷ key_ends ∷ after))
      → IfOk r (λ t. (events : List Event) × IsName events (string_bytes t) × (key_begins ∷ rest ≡ events ++ after))
  key-read (Ok t) after h = (key_begins ∷ h.0 ∷ key_ends ∷ [], key h.1, ap (λ es. key_begins ∷ es) h.2)
  key-read (Err e) after h = tt

-- the bytes of texts with one more
pub bytes-more : (old new : Vec (String Global) Global) (text : String Global) → new.items ≡ old.items ++ text ∷ []
    → bytes_of new ≡ bytes_of old ++ string_bytes text ∷ []
bytes-more old new text h = ap (map string_bytes) h ∙ map-append string_bytes old.items (text ∷ [])

module _ (none : List ℕ) where
  pub item-read : (before es rest after : List Event) (e : Event) (old new : Vec (String Global) Global) (text : String Global)
      → AllZip (IsText none) es (bytes_of old) → before ≡ es ++ rest → rest ≡ e ∷ after → IsText none e (string_bytes text)
      → new.items ≡ old.items ++ text ∷ []
      → (events : List Event) × AllZip (IsText none) events (bytes_of new) × (before ≡ events ++ after)
  item-read before es rest after e old new text zip read next is more = (
    es ++ e ∷ [],
    subst (λ ts. AllZip (IsText none) (es ++ e ∷ []) ts) (sym (bytes-more old new text more))
        (all_zipped_more (IsText none) es (bytes_of old) e (string_bytes text) zip is),
    read ∙ ap (λ r. es ++ r) next ∙ sym (append_assoc es (e ∷ []) after),
  )

  pub text-read : (own : List ℕ) (e : Event) (before after : List Event) (t : List ℕ) → own ≡ none → before ≡ e ∷ after → IsText own e t
      → (events : List Event) × IsCell none events t × (before ≡ events ++ after)
  text-read own e before after t same read is = (e ∷ [], one (subst (λ n. IsText n e t) same is), read)

  pub list-read : {E : Type 0} (before rest after : List Event) (n : Option ℕ) (items : Vec (String Global) Global) (r : Result (String Global) E)
      → before ≡ seq_begins n ∷ rest
      → ((events : List Event) × AllZip (IsText none) events (bytes_of items) × (rest ≡ events ++ seq_ends ∷ after))
      → IfOk r (λ t. string_bytes t ≡ joined (bytes_of items))
      → IfOk r (λ t. (events : List Event) × IsCell none events (string_bytes t) × (before ≡ events ++ after))
  list-read before rest after n items (Ok t) begins h joins = (
    seq_begins n ∷ h.0 ++ seq_ends ∷ [],
    subst (λ c. IsCell none (seq_begins n ∷ h.0 ++ seq_ends ∷ []) c) (sym joins) (list n h.0 (bytes_of items) h.1),
    begins ∙ ap (λ r. seq_begins n ∷ r) (h.2 ∙ sym (append_assoc h.0 (seq_ends ∷ []) after)),
  )
  list-read before rest after n items (Err e) begins h joins = tt

  pub field-made : (before mid after : List Event) (old new : Record) (name cell : String Global)
      → ((events : List Event) × IsName events (string_bytes name) × (before ≡ events ++ mid))
      → ((events : List Event) × IsCell none events (string_bytes cell) × (mid ≡ events ++ after))
      → new.names.items ≡ old.names.items ++ name ∷ [] → new.cells.items ≡ old.cells.items ++ cell ∷ []
      → FieldRead none before after old new
  field-made before mid after old new name cell h k names cells = record {
    name_events = h.0;
    cell_events = k.0;
    name = string_bytes name;
    cell = string_bytes cell;
    named = h.1;
    filled = k.1;
    read = h.2 ∙ ap (λ r. h.0 ++ r) k.2 ∙ sym (append_assoc h.0 k.0 after);
    names_are = bytes-more old.names new.names name names;
    cells_are = bytes-more old.cells new.cells cell cells;
  }

  appended : {A : Type 0} (xs ys zs all some : List A) → all ≡ some ++ zs → some ≡ xs ++ ys → all ≡ xs ++ (ys ++ zs)
  appended xs ys zs all some h k = h ∙ ap (λ l. l ++ zs) k ∙ append_assoc xs ys zs

  pub field-added : (before mid after : List Event) (old now new : Record) → FieldsRead none before mid old now → FieldRead none mid after now new
      → FieldsRead none before after old new
  field-added before mid after old now new s f = record {
    inside = s.inside ++ f.name_events ++ f.cell_events;
    names = s.names ++ f.name ∷ [];
    cells = s.cells ++ f.cell ∷ [];
    fields = and_field s.inside f.name_events f.cell_events s.names s.cells f.name f.cell s.fields f.named f.filled;
    read =
        s.read ∙ ap (λ r. s.inside ++ r) (f.read ∙ append_assoc f.name_events f.cell_events after)
        ∙ sym (append_assoc s.inside f.name_events (f.cell_events ++ after))
        ∙ sym (append_assoc (s.inside ++ f.name_events) f.cell_events after);
    names_are = appended (bytes_of old.names) s.names (f.name ∷ []) (bytes_of new.names) (bytes_of now.names) f.names_are s.names_are;
    cells_are = appended (bytes_of old.cells) s.cells (f.cell ∷ []) (bytes_of new.cells) (bytes_of now.cells) f.cells_are s.cells_are;
  }

  pub nothing-added : (before mid after : List Event) (old now : Record) → FieldsRead none before mid old now
      → mid ≡ flattens ∷ nothing ∷ after → FieldsRead none before after old now
  nothing-added before mid after old now s h = record {
    inside = s.inside ++ flattens ∷ nothing ∷ [];
    names = s.names;
    cells = s.cells;
    fields = and_nothing s.inside s.names s.cells s.fields;
    read = s.read ∙ ap (λ r. s.inside ++ r) h ∙ sym (append_assoc s.inside (flattens ∷ nothing ∷ []) after);
    names_are = s.names_are;
    cells_are = s.cells_are;
  }

  pub flattened-added : (before mid inner after : List Event) (n : Option ℕ) (old now new : Record) → FieldsRead none before mid old now
      → mid ≡ flattens ∷ map_begins n ∷ inner → FieldsRead none inner (map_ends ∷ after) now new → FieldsRead none before after old new
  flattened-added before mid inner after n old now new s h f = record {
    inside = s.inside ++ flattens ∷ map_begins n ∷ f.inside ++ map_ends ∷ [];
    names = s.names ++ f.names;
    cells = s.cells ++ f.cells;
    fields = and_flattened n s.inside f.inside s.names s.cells f.names f.cells s.fields f.fields;
    read =
        s.read
        ∙ ap (λ r. s.inside ++ r) (h ∙ ap (λ r. flattens ∷ map_begins n ∷ r) f.read)
        ∙ sym (append_assoc s.inside (flattens ∷ map_begins n ∷ f.inside) (map_ends ∷ after))
        ∙ sym (append_assoc (s.inside ++ flattens ∷ map_begins n ∷ f.inside) (map_ends ∷ []) after);
    names_are = appended (bytes_of old.names) s.names f.names (bytes_of new.names) (bytes_of now.names) f.names_are s.names_are;
    cells_are = appended (bytes_of old.cells) s.cells f.cells (bytes_of new.cells) (bytes_of now.cells) f.cells_are s.cells_are;
  }

  pub record-read : (before inner after : List Event) (n : Option ℕ) (old new : Record) → before ≡ map_begins n ∷ inner
      → old.names.items ≡ [] → old.cells.items ≡ [] → FieldsRead none inner (map_ends ∷ after) old new → after ≡ []
      → AreRecord none before (bytes_of new.names) (bytes_of new.cells)
  record-read before inner after n old new h no_names no_cells f ends = record {
    length_hint = n;
    inside = f.inside;
    fields =
        subst (λ cells. AreFields none f.inside (bytes_of new.names) cells) (sym (f.cells_are ∙ ap (λ l. map string_bytes l ++ f.cells) no_cells))
        (subst (λ names. AreFields none f.inside names f.cells) (sym (f.names_are ∙ ap (λ l. map string_bytes l ++ f.names) no_names)) f.fields);
    events_are = h ∙ ap (λ r. map_begins n ∷ r) (f.read ∙ ap (λ r. f.inside ++ map_ends ∷ r) ends);
  }
