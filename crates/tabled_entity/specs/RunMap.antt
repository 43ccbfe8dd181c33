-- A map from numbers, with a dense run of those that were inserted one after another.
use Rattle.std.specs.Prelude.{ℕ, ◌≡◌, ◌==◌, ◌-◌, ◌<◌, if◌then◌else◌, List, [], ◌∷◌, ◌++◌, length, Option, Some, None}
use Rattle.std.specs.Prelude.{get_or, nat_lt, slice_get}
use Rattle.std.specs.BTreeMap.{get}
use Rattle.std.specs.List.{range_with_len}
use Rattle.std.specs.Option.{option_or}
use Rattle.std.specs.Ordering.{nat_cmp}
use Rattle.tabled_entity.specs.declared.run_map.RunMap.{RunMap}

module _ {V : Type 0} where
  -- the value of a number in a dense run from the number `first`
  abbrev pub in_dense : ℕ → List V → ℕ → Option V
  in_dense first run number = if nat_lt number first then None else slice_get run (number - first)

  -- the value of a number in the map's run
  abbrev pub in_run : RunMap V → ℕ → Option V
  in_run map number = in_dense map.first map.run.items number

  -- the value of a number among the others
  abbrev pub in_others : RunMap V → ℕ → Option V
  in_others map number = get nat_cmp map.others number

  -- the value of a number
  abbrev pub value_in : RunMap V → ℕ → Option V
  value_in map number = option_or (in_run map number) (in_others map number)

  -- no number has a value
  pub record HasNoValue (map : RunMap V) : Type 0 where
    pub at : (number : ℕ) → value_in map number ≡ None

  -- each number has the same value
  pub record SameValues (old new : RunMap V) : Type 0 where
    pub at : (number : ℕ) → value_in new number ≡ value_in old number

  -- one number has a new value
  pub record HoldsValue (old new : RunMap V) (number : ℕ) (value : V) : Type 0 where
    pub at : (other : ℕ)
        → value_in new other ≡ (if number == other then Some value else value_in old other)

  -- a run that grows has the value at its end
  abbrev pub GrowsBy : RunMap V → RunMap V → V → Type 0
  GrowsBy old new value = length old.run.items < length new.run.items → new.run.items ≡ old.run.items ++ value ∷ []

-- numbers that follow each other
abbrev pub AreSuccessive : List ℕ → Type 0
AreSuccessive run = run ≡ range_with_len (get_or run 0 0) (length run)
