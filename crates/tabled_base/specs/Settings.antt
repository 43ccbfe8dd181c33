-- Two options in turn.
use Rattle.std.specs.Prelude.{Option, None, Some, ◌≡◌, ◌⊎◌}
use Rattle.tabled_base.specs.declared.error.TableError.{TableError}
use Rattle.tabled_base.specs.declared.error.TableError.TheVariants.{Memory}
use Rattle.tabled_base.specs.declared.position.Entity.{Entity}
use Rattle.tabled_base.specs.declared.position.Entity.TheVariants.{Global}

module _ {R C D : Type 0} where
  -- a change of which both hold
  abbrev pub Both : (first second : R → C → D → R → C → D → Type 0) → R → C → D → R → C → D → Type 0
  Both first second records config sizes records' config' sizes' =
      first records config sizes records' config' sizes' × second records config sizes records' config' sizes'

  -- the second change begins where the first one ended, with some of the sizes cleared
  pub record InTurn (first : R → C → D → R → C → D → Type 0) (clears : D → D → Type 0)
      (second : R → C → D → R → C → D → Type 0) (records : R) (config : C) (sizes : D)
      (records' : R) (config' : C) (sizes' : D) : Type 0 where
    pub records_between : R
    pub config_between : C
    pub sizes_changed : D
    pub sizes_between : D
    pub first_changes : first records config sizes records_between config_between sizes_changed
    pub between_cleared : clears sizes_changed sizes_between
    pub second_changes : second records_between config_between sizes_between records' config' sizes'

  -- the first change, or the second one where it begins
  abbrev pub EitherInTurn : (changes : R → C → D → R → C → D → Type 0) (clears : D → D → Type 0)
      (first second : R → C → D → R → C → D → Type 0) → R → C → D → R → C → D → Type 0
  EitherInTurn changes clears first second records config sizes records' config' sizes' =
      first records config sizes records' config' sizes' ⊎ InTurn changes clears second records config sizes records' config' sizes'

  -- what is left of two changes that fail: the configuration is as it was. The records and the sizes
  -- are as the changes left them, or as they were if the copy of the configuration failed
  abbrev pub FailsInTurn : (needs_memory : C → Type 0) → TableError → (changes : R → C → D → R → C → D → Type 0) (clears : D → D → Type 0)
      (first second : R → C → D → R → C → D → Type 0) → R → C → D → R → C → D → Type 0
  FailsInTurn needs_memory error changes clears first second records config sizes records' config' sizes' =
      (config' ≡ config)
      × (((last : C) × EitherInTurn changes clears first second records config sizes records' last sizes')
      ⊎ ((error ≡ Memory) × (needs_memory config × ((records' ≡ records) × (sizes' ≡ sizes)))))

  -- it holds before the first change, or where the second one begins
  abbrev pub HoldsInTurn : (changes : R → C → D → R → C → D → Type 0) (clears : D → D → Type 0)
      (first second : R → C → D → Type 0) → R → C → D → Type 0
  HoldsInTurn changes clears first second records config sizes =
      first records config sizes
      ⊎ ((r : R) × (c : C) × (d : D) × (d' : D) × changes records config sizes r c d × clears d d' × second r c d')

module _ {R C : Type 0} where
  -- the second change of an entity's cells begins where the first one ended
  pub record CellsInTurn (first second : R → C → Entity → R → C → Type 0) (records : R) (config : C) (entity : Entity)
      (records' : R) (config' : C) : Type 0 where
    pub records_between : R
    pub config_between : C
    pub first_changes : first records config entity records_between config_between
    pub second_changes : second records_between config_between entity records' config'

  abbrev pub EitherCellsInTurn : (changes first second : R → C → Entity → R → C → Type 0) → R → C → Entity → R → C → Type 0
  EitherCellsInTurn changes first second records config entity records' config' =
      first records config entity records' config' ⊎ CellsInTurn changes second records config entity records' config'

  abbrev pub CellsHoldInTurn : (changes : R → C → Entity → R → C → Type 0) (first second : R → C → Entity → Type 0) → R → C → Entity → Type 0
  CellsHoldInTurn changes first second records config entity =
      first records config entity ⊎ ((r : R) × (c : C) × changes records config entity r c × second r c entity)

-- the sizes that two options ask to be measured again
abbrev pub both : Option Entity → Option Entity → Option Entity
both None second = second
both (Some first) None = Some first
both (Some first) (Some second) = Some Global
