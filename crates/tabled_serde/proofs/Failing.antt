-- Why no cell, no name and no field comes.
use Rattle.std.proofs.Common.{Err, IfErr, IsErr, IsErrAnd, List, OnOk, Ok, Option, Result, Some, [], ap, append_assoc, refl, subst, sym, ℕ, ◌++◌, ◌∙◌, ◌∷◌, ◌≡◌, ◌≢◌, ◌⊎◌, inl, inr}
use Rattle.std.specs.Prelude.{⊤}
use Rattle.std.specs.List.{AllZip}
use Rattle.serde.specs.Event.{Event, flattens, key_begins, map_begins, map_ends, seq_begins, seq_ends}
use Rattle.tabled_serde.specs.Errors.{HasCause, IsFieldError, IsNested, IsOwn, IsRecordError, IsValueError, IsWriteError, NoCellFirst, NoItemsFirst, NoKeyFirst, NoNameFirst, NoFieldFirst, NoTextIs, goes_on, inner, of_events, of_value, row_error, whole}
use Rattle.tabled_serde.specs.Reader.{FieldsRead}
use Rattle.tabled_serde.specs.Records.{IsName, IsText, list, one}
use Rattle.tabled_serde.specs.declared.error.RowError.{RowError}
use Rattle.tabled_serde.specs.declared.error.RowError.TheVariants.{Memory, NoFields, NoName, Nested, Malformed, Unknown, Custom}
use Rattle.tabled_serde.specs.declared.event.EventError.{EventError}
use Rattle.tabled_serde.specs.declared.event.EventError.TheVariants as event_error
use Rattle.tabled_serde.specs.declared.reader.Record.{Record}

-- the reason of an error that names the field
pub with-reason : {P Q : Type 0} (name : List ℕ) (e : RowError) → (P → Q) → IsNested name P e → IsNested name Q e
with-reason name Memory f h = tt
with-reason name NoFields f h = absurd h
with-reason name NoName f h = absurd h
with-reason name Malformed f h = absurd h
with-reason name (Nested field) f h = (h.0, f h.1)
with-reason name (Unknown field) f h = absurd h
with-reason name (Custom field message) f h = absurd h

pub each-reason : {A P Q : Type 0} (name : List ℕ) (r : Result A RowError) → (P → Q) → IfErr r (IsNested name P) → IfErr r (IsNested name Q)
each-reason name (Ok x) f h = tt
each-reason name (Err e) f h = with-reason name e f h

pub named : {Q : Type 0} (name : List ℕ) (e : RowError) → Q → IsNested name ⊤ e → IsNested name Q e
named name e q h = with-reason name e (λ _. q) h

-- what holds of the error that is passed on
pub passed : {A : Type 0} (P : RowError → Type 0) (r : Result A RowError) (e : RowError) → IsErrAnd r (λ d. d ≡ e) → P e → IfErr r P
passed P (Ok x) e is h = absurd is
passed P (Err d) e is h = subst P (sym is) h

pub never-ok : {A E : Type 0} (P : Type 0) (r : Result A E) → IsErr r → OnOk r P
never-ok P (Ok x) h = absurd (cc h)
never-ok P (Err e) h = tt

module _ (none : List ℕ) where
  pub no-items-left : NoItemsFirst none []
  no-items-left [] after texts same given = absurd (cc same)
  no-items-left (e ∷ items) after texts same given = absurd (cc same)

  pub no-item : (e : Event) (rest : List Event) → e ≢ seq_ends → NoTextIs (IsText none e) → NoItemsFirst none (e ∷ rest)
  no-item e rest more no_text [] after texts same given = absurd (more (cc same))
  no-item e rest more no_text (y ∷ items) after [] same given = absurd given
  no-item e rest more no_text (y ∷ items) after (t ∷ texts) same given =
      let is : y ≡ e = cc same in
      no_text t (subst (λ y. IsText none y t) is given.0)

  pub no-items : (es rest : List Event) (ts : List (List ℕ)) → AllZip (IsText none) es ts → NoItemsFirst none rest → NoItemsFirst none (es ++ rest)
  no-items [] rest ts zip h items after texts same given = h items after texts same given
  no-items (x ∷ es) rest [] zip h items after texts same given = absurd zip
  no-items (x ∷ es) rest (t ∷ ts) zip h [] after texts same given =
      let is : x ≡ seq_ends = cc same in
      absurd (subst (λ x. IsText none x t) is zip.0)
  no-items (x ∷ es) rest (t ∷ ts) zip h (y ∷ items) after [] same given = absurd given
  no-items (x ∷ es) rest (t ∷ ts) zip h (y ∷ items) after (u ∷ texts) same given = no-items es rest ts zip.1 h items after texts (cc same) given.1

  pub no-list : (n : Option ℕ) (rest : List Event) → NoItemsFirst none rest → NoCellFirst none (seq_begins n ∷ rest)
  no-list n rest h part after cell same (one {e = e} {t = t} is) =
      let begins : e ≡ seq_begins n = cc same in
      absurd (subst (λ e. IsText none e t) begins is)
  no-list n rest h part after cell same (list m es ts zip) =
      let read : rest ≡ (es ++ seq_ends ∷ []) ++ after = cc same in
      h es after ts (read ∙ append_assoc es (seq_ends ∷ []) after) zip

  pub no-cell : (e : Event) (rest : List Event) → ((n : Option ℕ) → e ≢ seq_begins n) → NoTextIs (IsText none e) → NoCellFirst none (e ∷ rest)
  no-cell e rest single no_text part after cell same (one {e = x} {t = t} is) =
      let first : x ≡ e = cc same in
      no_text t (subst (λ x. IsText none x t) first is)
  no-cell e rest single no_text part after cell same (list m es ts zip) = absurd (single m (cc same))

  pub no-cell-left : NoCellFirst none []
  no-cell-left part after cell same (one is) = absurd (cc same)
  no-cell-left part after cell same (list m es ts zip) = absurd (cc same)

  pub key-fails : {A : Type 0} (r : Result A RowError) (after : List Event) → IfErr r (λ e. (e ≡ Memory) ⊎ ((e ≡ NoName) × NoKeyFirst after))
      → IfErr r (HasCause none NoNameFirst (key_begins ∷ after))
  key-fails (Ok x) after h = tt
  key-fails (Err e) after (inl same) = subst (λ e. HasCause none NoNameFirst (key_begins ∷ after) e) (sym same) tt
  key-fails (Err e) after (inr h) = subst (λ e. HasCause none NoNameFirst (key_begins ∷ after) e) (sym h.0) (after, refl, h.1)

  no_cell_of : (before mid : List Event) (name : List ℕ) (e : RowError) → ((events : List Event) × IsName events name × (before ≡ events ++ mid))
      → IsNested name (NoCellFirst none mid) e → HasCause none NoNameFirst before e
  no_cell_of before mid name Memory h k = tt
  no_cell_of before mid name NoFields h k = absurd k
  no_cell_of before mid name NoName h k = absurd k
  no_cell_of before mid name Malformed h k = absurd k
  no_cell_of before mid name (Nested field) h k = record {
    name_events = h.0;
    after = mid;
    named = subst (λ n. IsName h.0 n) (sym k.0) h.1;
    no_cell = k.1;
    events_are = h.2;
  }
  no_cell_of before mid name (Unknown field) h k = absurd k
  no_cell_of before mid name (Custom field message) h k = absurd k

  pub cell-fails : (before mid : List Event) (name : List ℕ) (e : RowError) → ((events : List Event) × IsName events name × (before ≡ events ++ mid))
      → IsNested name (NoCellFirst none mid) e → HasCause none NoNameFirst before e
  cell-fails before mid name e h k = no_cell_of before mid name e h k

  -- an error of a field, where it is known that neither the end comes nor a flattened struct
  pub field-cause : (events : List Event) (e : RowError) → (NoNameFirst events → NoFieldFirst events) → HasCause none NoNameFirst events e
      → HasCause none NoFieldFirst events e
  field-cause events Memory f h = tt
  field-cause events NoFields f h = absurd h
  field-cause events NoName f h = h
  field-cause events Malformed f h = f h
  field-cause events (Nested field) f h = h
  field-cause events (Unknown field) f h = absurd h
  field-cause events (Custom field message) f h = absurd h

  pub field-fails : (before after : List Event) (old now : Record) (e : RowError) → FieldsRead none before after old now
      → HasCause none NoFieldFirst after e → IsFieldError none before e
  field-fails before after old now e s h = record {
    before = s.inside;
    after = after;
    begun = whole s.inside s.names s.cells s.fields;
    cause = h;
    events_are = s.read;
  }

  pub inner-fails : (before mid inside : List Event) (n : Option ℕ) (old now : Record) (e : RowError) → FieldsRead none before mid old now
      → mid ≡ flattens ∷ map_begins n ∷ inside → IsFieldError none inside e → IsFieldError none before e
  inner-fails before mid inside n old now e s h f = record {
    before = s.inside ++ flattens ∷ map_begins n ∷ f.before;
    after = f.after;
    begun = inner n s.inside f.before (whole s.inside s.names s.cells s.fields) f.begun;
    cause = f.cause;
    events_are =
        s.read ∙ ap (λ r. s.inside ++ r) (h ∙ ap (λ r. flattens ∷ map_begins n ∷ r) f.events_are)
        ∙ sym (append_assoc s.inside (flattens ∷ map_begins n ∷ f.before) f.after);
  }

  -- more events follow those of a record
  pub more-follow : (before inside rest : List Event) (n : Option ℕ) (old new : Record) → before ≡ map_begins n ∷ inside
      → FieldsRead none inside (map_ends ∷ rest) old new → rest ≢ [] → IsRecordError none before Malformed
  more-follow before inside [] n old new h f more = absurd (more refl)
  more-follow before inside (e ∷ after) n old new h f more =
      goes_on (map_begins n ∷ f.inside ++ map_ends ∷ []) after f.names f.cells e
      (record { length_hint = n; inside = f.inside; fields = f.fields; events_are = refl })
      (h ∙ ap (λ r. map_begins n ∷ r) (f.read ∙ sym (append_assoc f.inside (map_ends ∷ []) (e ∷ after))))

own_error : (own : List ℕ → List ℕ → Type 0) (error : EventError) → IsOwn own error → IsWriteError own (row_error error)
own_error own event_error.Memory h = tt
own_error own (event_error.Custom field message) h = h

module _ {A T : Type 0} (writes : T → Option (List Event) → Option (List Event) → Type 0) (own : T → List ℕ → List ℕ → Type 0)
    (none : List ℕ) (value : T) where
  pub own-fails : (error : EventError) (r : Result A RowError) → IsOwn (own value) error → IsErrAnd r (λ e. e ≡ row_error error)
      → IfErr r (IsValueError writes own none value)
  own-fails error (Ok x) is h = absurd h
  own-fails error (Err e) is h = of_value e (subst (IsWriteError (own value)) (sym h) (own_error (own value) error is))

  pub events-fail : (events : List Event) (r : Result A RowError) → writes value (Some []) (Some events) → IfErr r (IsRecordError none events)
      → IfErr r (IsValueError writes own none value)
  events-fail events (Ok x) written h = tt
  events-fail events (Err e) written h = of_events events e written h
