-- Why a value is no row. `Custom` is an error of the value itself; each other one but `Memory` has its cause among the events.
use Rattle.std.specs.Prelude.{◌≡◌, ◌⊎◌, ℕ, List, [], ◌∷◌, ◌++◌, Option, Some, ⊤, string_bytes}
use Rattle.std.specs.List.{All, AllZip}
use Rattle.serde.specs.Event.{Event, field_key, variant_key, key_begins, key_ends, map_begins, map_ends, flattens, nothing, seq_ends}
use Rattle.serde.specs.Spelling.{spelled}
use Rattle.serde.specs.declared.name.Case.{Case}
use Rattle.serde.specs.declared.name.NameKind.TheVariants.{Field}
use Rattle.tabled_serde.specs.Records.{AreFields, AreRecord, IsCell, IsName, IsScalar, IsText}
use Rattle.tabled_serde.specs.declared.event.EventError.{EventError}
use Rattle.tabled_serde.specs.declared.event.EventError.TheVariants as event_error
use Rattle.tabled_serde.specs.declared.error.RowError.{RowError}
use Rattle.tabled_serde.specs.declared.error.RowError.TheVariants.{Memory, NoFields, NoName, Nested, Malformed, Custom}

-- an allocation failed, or this is an error of the value itself, of which `own` says the field and the message
abbrev pub IsWriteError : (List ℕ → List ℕ → Type 0) → RowError → Type 0
IsWriteError own Memory = ⊤
IsWriteError own (Custom field message) = own (string_bytes field) (string_bytes message)
IsWriteError own e = ⊥

-- the same, before it is an error of a row
abbrev pub IsOwn : (List ℕ → List ℕ → Type 0) → EventError → Type 0
IsOwn own event_error.Memory = ⊤
IsOwn own (event_error.Custom field message) = own (string_bytes field) (string_bytes message)

-- the same error of a row
abbrev pub row_error : EventError → RowError
row_error event_error.Memory = Memory
row_error (event_error.Custom field message) = Custom field message

-- this event is no field's name
abbrev pub IsNoKey : Event → Type 0
IsNoKey (field_key name case) = ⊥
IsNoKey e = ⊤

-- the last name of a field among these events
pub record HasLastKey (events : List Event) (name : List ℕ) (case : Case) : Type 0 where
  pub before : List Event
  pub after : List Event
  pub no_other : All IsNoKey after
  pub events_are : events ≡ before ++ field_key name case ∷ after

-- the name of the last field as it is spelled, or an empty text where no field has begun
abbrev pub IsLastField : List Event → List ℕ → Type 0
IsLastField events field =
    (All IsNoKey events × (field ≡ [])) ⊎ ((name : List ℕ) × (case : Case) × HasLastKey events name case × (field ≡ spelled case Field name))

-- the value's own error with this message names the last field, or an allocation failed
abbrev pub IsCustom : List Event → List ℕ → EventError → Type 0
IsCustom events message event_error.Memory = ⊤
IsCustom events message (event_error.Custom field own) = IsLastField events (string_bytes field) × (string_bytes own ≡ message)

-- no text at all
abbrev pub NoTextIs : (List ℕ → Type 0) → Type 0
NoTextIs P = (text : List ℕ) → ¬ (P text)

-- the events don't begin with those of a cell
abbrev pub NoCellFirst : List ℕ → List Event → Type 0
NoCellFirst none events = (part after : List Event) (cell : List ℕ) → events ≡ part ++ after → ¬ (IsCell none part cell)

-- the events don't begin with the items of a list and its end
abbrev pub NoItemsFirst : List ℕ → List Event → Type 0
NoItemsFirst none events = (items after : List Event) (texts : List (List ℕ)) → events ≡ items ++ seq_ends ∷ after → ¬ (AllZip (IsText none) items texts)

-- an allocation failed, or the field of this name has no cell for this reason
abbrev pub IsNested : List ℕ → Type 0 → RowError → Type 0
IsNested name why Memory = ⊤
IsNested name why (Nested field) = (string_bytes field ≡ name) × why
IsNested name why e = ⊥

-- the field of this name comes first, and no cell after it
pub record HasNoCell (none : List ℕ) (events : List Event) (name : List ℕ) : Type 0 where
  pub name_events : List Event
  pub after : List Event
  pub named : IsName name_events name
  pub no_cell : NoCellFirst none after
  pub events_are : events ≡ name_events ++ after

-- the events don't begin with the text of a key and its end
abbrev pub NoKeyFirst : List Event → Type 0
NoKeyFirst events = (e : Event) (after : List Event) (key : List ℕ) → events ≡ e ∷ key_ends ∷ after → ¬ (IsScalar e key)

-- a key comes first, and has no text
abbrev pub HasNoName : List Event → Type 0
HasNoName events = (after : List Event) × (events ≡ key_begins ∷ after) × NoKeyFirst after

-- the events don't begin with a struct or a map
abbrev pub NoMapFirst : List Event → Type 0
NoMapFirst (map_begins n ∷ after) = ⊥
NoMapFirst events = ⊤

-- the events begin neither with a struct nor with `None`
abbrev pub NoStructFirst : List Event → Type 0
NoStructFirst (map_begins n ∷ after) = ⊥
NoStructFirst (nothing ∷ after) = ⊥
NoStructFirst events = ⊤

-- the events don't begin as those of a name do
abbrev pub NoNameFirst : List Event → Type 0
NoNameFirst (field_key name case ∷ after) = ⊥
NoNameFirst (variant_key name case ∷ after) = ⊥
NoNameFirst (key_begins ∷ after) = ⊥
NoNameFirst events = ⊤

-- nor as those of a flattened struct, nor with the end
abbrev pub NoFieldFirst : List Event → Type 0
NoFieldFirst (map_ends ∷ after) = ⊥
NoFieldFirst (flattens ∷ after) = NoStructFirst after
NoFieldFirst events = NoNameFirst events

-- the cause of an error at the first of these events, where `Wrong` is that of `Malformed`
abbrev pub HasCause : List ℕ → (List Event → Type 0) → List Event → RowError → Type 0
HasCause none Wrong events Memory = ⊤
HasCause none Wrong events (Nested field) = HasNoCell none events (string_bytes field)
HasCause none Wrong events NoName = HasNoName events
HasCause none Wrong events Malformed = Wrong events
HasCause none Wrong events e = ⊥

-- whole fields, and those of a flattened struct that hasn't ended
pub data AreBegun (none : List ℕ) : List Event → Type 0 where
  whole : (es : List Event) (names cells : List (List ℕ)) → AreFields none es names cells → AreBegun none es
  inner : (n : Option ℕ) (es more : List Event) → AreBegun none es → AreBegun none more → AreBegun none (es ++ flattens ∷ map_begins n ∷ more)

-- an error of fields, after some of them
pub record IsFieldError (none : List ℕ) (events : List Event) (e : RowError) : Type 0 where
  pub before : List Event
  pub after : List Event
  pub begun : AreBegun none before
  pub cause : HasCause none NoFieldFirst after e
  pub events_are : events ≡ before ++ after

-- an error of a value that writes these events: they begin no struct and no map, or a field is wrong, or more follows
pub data IsRecordError (none : List ℕ) (events : List Event) : RowError → Type 0 where
  no_struct : NoMapFirst events → IsRecordError none events NoFields
  in_field : (n : Option ℕ) (inside : List Event) (e : RowError) → events ≡ map_begins n ∷ inside → IsFieldError none inside e → IsRecordError none events e
  goes_on : (fields after : List Event) (names cells : List (List ℕ)) (e : Event) → AreRecord none fields names cells
      → events ≡ fields ++ e ∷ after → IsRecordError none events Malformed

-- an error of a value: its own, or that of its events
pub data IsValueError {T : Type 0} (writes : T → Option (List Event) → Option (List Event) → Type 0) (own : T → List ℕ → List ℕ → Type 0)
    (none : List ℕ) (value : T) : RowError → Type 0 where
  of_value : (e : RowError) → IsWriteError (own value) e → IsValueError writes own none value e
  of_events : (events : List Event) (e : RowError) → writes value (Some []) (Some events) → IsRecordError none events e
      → IsValueError writes own none value e
