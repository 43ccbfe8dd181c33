-- The index of the latest change for each entity in the list of changes.
use Rattle.std.specs.Prelude.{ℕ, ◌≡◌, ◌==◌, ◌&&◌, if◌then◌else◌, Bool, true, false, List, [], ◌∷◌, length, Option, Some, None, max}
use Rattle.tabled_base.specs.declared.position.Entity.{Entity}
use Rattle.tabled_base.specs.declared.position.Entity.TheVariants.{Global, Row, Column, Cell}
use Rattle.tabled_entity.specs.RowPlaces.{cell_in}
use Rattle.tabled_entity.specs.RunMap.{value_in}
use Rattle.tabled_entity.specs.declared.row_values.ChangeIndex.{ChangeIndex}

abbrev pub same : Entity → Entity → Bool
same Global Global = true
same (Row r) (Row s) = r == s
same (Column c) (Column d) = c == d
same (Cell r c) (Cell s d) = r == s && c == d
same _ _ = false

-- an entity other than the entire table
abbrev pub IsPart : Entity → Type 0
IsPart Global = ⊥
IsPart (Row r) = Unit {0}
IsPart (Column c) = Unit {0}
IsPart (Cell r c) = Unit {0}

-- the entire table
abbrev pub IsWhole : Entity → Type 0
IsWhole Global = Unit {0}
IsWhole (Row r) = ⊥
IsWhole (Column c) = ⊥
IsWhole (Cell r c) = ⊥

-- the index of the latest change for an entity, counted from the earliest. The list has the latest
-- change first
abbrev pub last_for : {T : Type 0} → Entity → List (Entity × T) → Option ℕ
last_for entity [] = None
last_for entity (part ∷ earlier) = if same part.0 entity then Some (length earlier) else last_for entity earlier

-- each change is for a part
abbrev pub AreParts : {T : Type 0} → List (Entity × T) → Type 0
AreParts parts = last_for Global parts ≡ None

-- the index that is stored for an entity. None is stored for the entire table
abbrev pub found : ChangeIndex → Entity → Option ℕ
found places Global = None
found places (Row r) = value_in places.rows r
found places (Column c) = value_in places.columns c
found places (Cell r c) = cell_in places.cells r c

-- the later of two changes, by their indices
abbrev pub later : Option ℕ → Option ℕ → Option ℕ
later None b = b
later (Some i) None = Some i
later (Some i) (Some j) = Some (max i j)

-- the latest change that covers a cell, by the latest change for each entity
abbrev pub latest : (Entity → Option ℕ) → ℕ → ℕ → Option ℕ
latest place row column = later (place (Row row)) (later (place (Column column)) (place (Cell row column)))

-- for each entity, the index of its latest change is stored
pub record IsIndexed {T : Type 0} (places : ChangeIndex) (parts : List (Entity × T)) : Type 0 where
  pub found : (entity : Entity) → found places entity ≡ last_for entity parts

-- the index of one entity is replaced
pub record IsReindexed (old new : ChangeIndex) (entity : Entity) (place : ℕ) : Type 0 where
  pub found : (other : Entity) → found new other ≡ (if same entity other then Some place else found old other)

-- the index of each entity is unchanged
pub record SamePlaces (old new : ChangeIndex) : Type 0 where
  pub found : (entity : Entity) → found new entity ≡ found old entity

-- no entity has an index
pub record HasNone (places : ChangeIndex) : Type 0 where
  pub found : (entity : Entity) → found places entity ≡ None
