-- What a reader has read of the events of a value.
use Rattle.std.specs.Prelude.{◌≡◌, ℕ, Bool, true, false, List, [], ◌∷◌, ◌++◌, Option, map, string_bytes}
use Rattle.std.specs.declared.alloc.Global.{Global}
use Rattle.std.specs.declared.string.String.{String}
use Rattle.std.specs.declared.vec.Vec.{Vec}
use Rattle.serde.specs.Event.{Event, map_begins, nothing}
use Rattle.tabled_serde.specs.Events.{event_of}
use Rattle.tabled_serde.specs.Records.{AreFields, IsCell, IsName}
use Rattle.tabled_serde.specs.declared.reader.Reader.{Reader}
use Rattle.tabled_serde.specs.declared.reader.Record.{Record}

-- the bytes of texts
abbrev pub bytes_of : Vec (String Global) Global → List (List ℕ)
bytes_of texts = map string_bytes texts.items

-- the events that weren't read
abbrev pub left : Reader → List Event
left r = map event_of r.steps.now

-- a flattened struct begins, or `None` is in its place
abbrev pub BeginsStruct : Bool → List Event → List Event → Type 0
BeginsStruct true before after = (n : Option ℕ) × (before ≡ map_begins n ∷ after)
BeginsStruct false before after = before ≡ nothing ∷ after

-- fields were read, and added to the record
pub record FieldsRead (none : List ℕ) (before after : List Event) (old new : Record) : Type 0 where
  pub inside : List Event
  pub names : List (List ℕ)
  pub cells : List (List ℕ)
  pub fields : AreFields none inside names cells
  pub read : before ≡ inside ++ after
  pub names_are : bytes_of new.names ≡ bytes_of old.names ++ names
  pub cells_are : bytes_of new.cells ≡ bytes_of old.cells ++ cells

-- a field was read, and added to the record
pub record FieldRead (none : List ℕ) (before after : List Event) (old new : Record) : Type 0 where
  pub name_events : List Event
  pub cell_events : List Event
  pub name : List ℕ
  pub cell : List ℕ
  pub named : IsName name_events name
  pub filled : IsCell none cell_events cell
  pub read : before ≡ name_events ++ cell_events ++ after
  pub names_are : bytes_of new.names ≡ bytes_of old.names ++ name ∷ []
  pub cells_are : bytes_of new.cells ≡ bytes_of old.cells ++ cell ∷ []
