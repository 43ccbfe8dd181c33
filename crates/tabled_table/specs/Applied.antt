-- What an option leaves of a table. The stored sizes that its hint names are cleared, and all of
-- them if it fails.
use Rattle.std.specs.Prelude.{◌≡◌, ℕ, List, [], ◌∷◌, Option, None, length, ◌⊎◌, ◌<◌, Some, slice_get, take}
use Rattle.std.specs.Prelude.{Bool, false, true, if◌then◌else◌, nat_lt, ◌&&◌, ◌||◌, ◌==◌}
use Rattle.tabled_base.specs.Cells.{columns}
use Rattle.tabled_base.specs.declared.position.Entity.{Entity}
use Rattle.tabled_config.specs.declared.colored.ColoredConfig.{ColoredConfig}
use Rattle.tabled_size.specs.Cleared.{AreCleared}
use Rattle.tabled_size.specs.Stored.{heights_of, widths_of}
use Rattle.tabled_size.specs.declared.complete_dimension.CompleteDimension.{CompleteDimension}
use Rattle.tabled_set.specs.PutBack.{IsPutBack}
use Rattle.tabled_table.specs.declared.table.Table.{Table}
use Rattle.tabled_base.specs.declared.error.TableError.{TableError}
use Rattle.tabled_base.specs.declared.error.TableError.TheVariants.{Memory, Range}

-- the cells of a table, row by row
abbrev pub Cells : Type 0
Cells = List (List (List ℕ))

-- no sizes are stored
pub record AreNone (sizes : CompleteDimension) : Type 0 where
  pub widths : widths_of sizes ≡ None
  pub heights : heights_of sizes ≡ None

-- a table option's change, or what it promises of that; then the sizes that its hint names are
-- cleared
pub record IsApplied (changes : Cells → ColoredConfig → CompleteDimension → Cells → ColoredConfig → CompleteDimension
    → Type 0) (hint : Option Entity) (old new : Table) : Type 0 where
  pub sizes : CompleteDimension
  pub changed : changes old.records old.config old.dimension new.records new.config sizes
  pub cleared : AreCleared hint sizes new.dimension

-- what a table option leaves when it fails
pub record FailsBy (fails : Cells → ColoredConfig → CompleteDimension → Cells → ColoredConfig
    → CompleteDimension → Type 0) (old new : Table) : Type 0 where
  pub sizes : CompleteDimension
  pub refused : fails old.records old.config old.dimension new.records new.config sizes
  pub cleared : AreNone new.dimension

-- the entities that a target picks in a table
abbrev pub named_in : Table → (ℕ → ℕ → List Entity) → List Entity
named_in table picks = picks (length table.records) (columns table.records)

-- a change of cells and configuration at an entity, from old to new
abbrev pub CellChange : Type 1
CellChange = Cells → ColoredConfig → Entity → Cells → ColoredConfig → Type 0

-- a cell option's changes to some entities, one after another
abbrev pub ChangesEach : CellChange → List Entity → Cells → ColoredConfig → Cells → ColoredConfig → Type 0
ChangesEach changes [] cells config cells' config' = (cells' ≡ cells) × (config' ≡ config)
ChangesEach changes (entity ∷ entities) cells config cells' config' =
    (between : Cells) × (between_config : ColoredConfig) × changes cells config entity between between_config
    × ChangesEach changes entities between between_config cells' config'

-- the changes to each entity in order; then the sizes that the hint names are cleared
pub record IsModified (changes : CellChange) (entities : List Entity) (hint : Option Entity) (old new : Table) : Type 0 where
  pub changed : ChangesEach changes entities old.records old.config new.records new.config
  pub cleared : AreCleared hint old.dimension new.dimension

-- ---- a modification that fails at an entity, and why

-- what is left of the cells and the configuration if a cell option fails at an entity. If its
-- failure is undone, the cells of the entity are put back, and the copy for that may fail too
abbrev pub FailsAt : Bool → (TableError → CellChange) → TableError → CellChange
FailsAt false fails error cells config entity cells' config' = fails error cells config entity cells' config'
FailsAt true fails error cells config entity cells' config' =
    ((left : Cells) × fails error cells config entity left config' × IsPutBack entity cells left cells')
    ⊎ ((error ≡ Memory) × ((cells' ≡ cells) × (config' ≡ config)))

-- a cell option that is applied to some entities in order: whether a failure at an entity is undone
-- there, what the option changes, what it leaves when it fails, and when a sum or product of it
-- exceeds the greatest `usize`
pub record Modification : Type 1 where
  pub is_undone : Bool
  pub changes : CellChange
  pub fails : TableError → CellChange
  pub out_of_range : Cells → ColoredConfig → Entity → Type 0
  pub entities : List Entity

-- the option changes the first entities and fails at the next one; `Range` comes only if a sum or
-- product exceeds the greatest `usize` there
pub record StopsAtPart (m : Modification) (error : TableError)
    (cells : Cells) (config : ColoredConfig) (cells' : Cells) (config' : ColoredConfig) : Type 0 where
  pub count : ℕ
  pub entity : Entity
  pub next : slice_get m.entities count ≡ Some entity
  pub between : Cells
  pub between_config : ColoredConfig
  pub changed : ChangesEach m.changes (take count m.entities) cells config between between_config
  pub refused : FailsAt m.is_undone m.fails error between between_config entity cells' config'
  pub cause : error ≡ Range → m.out_of_range between between_config entity

-- a copy of the configuration, if it may have to be restored
abbrev pub kept_config : Bool → List Entity → ColoredConfig → Option ColoredConfig
kept_config is_undone entities config =
    if (nat_lt 1 (length entities) || (is_undone && length entities == 1)) then Some config else None

-- what a failed modification leaves. The configuration is as it was. Either the option failed at an
-- entity, and those before it stay changed; or an allocation failed, for the list of entities or
-- the copy of the configuration, and then there is an entity and no cell has changed
pub record StopsModifying (m : Modification) (error : TableError)
    (cells : Cells) (config : ColoredConfig) (cells' : Cells) (config' : ColoredConfig) : Type 0 where
  pub stopped : ((last : ColoredConfig) × StopsAtPart m error cells config cells' last)
      ⊎ ((error ≡ Memory) × ((0 < length m.entities) × (cells' ≡ cells)))
  pub kept : config' ≡ config

-- what a failed modification leaves of a table, which then has no sizes stored
pub record ModifyingFails (m : Modification) (error : TableError) (old new : Table) : Type 0 where
  pub parts : StopsModifying m error old.records old.config new.records new.config
  pub cleared : AreNone new.dimension

-- a modification of a table can fail with this error. This is the cause of the error alone: which
-- table is left is said of the table itself
abbrev pub CanFail : Modification → Table → TableError → Type 0
CanFail m table error = (left : Table) × ModifyingFails m error table left
