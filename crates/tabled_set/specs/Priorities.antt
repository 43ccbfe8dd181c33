-- Properties of priorities, by their relations of old and new lists.
use Rattle.std.specs.Prelude.{ℕ, Bool, List}
use Rattle.tabled_priority.specs.Grown.{IsGrownFrom}
use Rattle.tabled_set.specs.Common.{IsTakenFrom}
use Rattle.tabled_priority.specs.Shrunk.{IsMaxShrunk}

-- how priorities of a type shrink lists: the priority, a list, its minimums, an amount, and then
-- the new list and the priority
abbrev pub Shrinks : Type 0 → Type 1
Shrinks P = P → List ℕ → List ℕ → ℕ → List ℕ → P → Type 0

-- how they grow lists, in the same order
abbrev pub Grows : Type 0 → Type 1
Grows P = P → List ℕ → ℕ → List ℕ → P → Type 0

-- how columns or rows shrink to a total: how priorities of a type shrink lists, and the priority
pub record Shrinking (P : Type 0) : Type 1 where
  pub shrinks : Shrinks P
  pub priority : P
  pub total : ℕ

abbrev pub shrinking_to : {P : Type 0} → Shrinks P → P → ℕ → Shrinking P
shrinking_to shrinks priority total = record { shrinks = shrinks; priority = priority; total = total }

-- how they grow to a total
pub record Growing (P : Type 0) : Type 1 where
  pub grows : Grows P
  pub priority : P
  pub total : ℕ

abbrev pub growing_to : {P : Type 0} → Grows P → P → ℕ → Growing P
growing_to grows priority total = record { grows = grows; priority = priority; total = total }

-- shrinking takes the whole amount, or as much as the minimums allow, as with the five priorities
abbrev pub TakesFrom : {P : Type 0} → Shrinks P → P → Type 0
TakesFrom {P} shrinks s = (last : P) (old mins new : List ℕ) (by : ℕ) → shrinks s old mins by new last → IsTakenFrom old mins by new

-- the largest sizes shrink first, and of equal ones those on one side, as with `PriorityMax`
abbrev pub TakesGreatest : {P : Type 0} → Shrinks P → P → Type 0
TakesGreatest {P} shrinks s = (last : P) (old mins new : List ℕ) (by : ℕ) → shrinks s old mins by new last → (right : Bool) × IsMaxShrunk right old mins by new

-- growing adds the whole amount if some size isn't 0, as with the five priorities
abbrev pub AddsTo : {P : Type 0} → Grows P → P → Type 0
AddsTo {P} grows s = (last : P) (old new : List ℕ) (by : ℕ) → grows s old by new last → IsGrownFrom old by new
