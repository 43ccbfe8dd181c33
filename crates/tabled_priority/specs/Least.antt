-- Lists that are optimal among the lists with their sum.
use Rattle.std.specs.Prelude.{◌≡◌, ℕ, ◌+◌, ◌<◌, ◌≤◌, List, sum}
use Rattle.tabled_text.specs.Measure.{greatest}
use Rattle.tabled_priority.specs.Permitted.{at, IsPermitted}
use Rattle.tabled_priority.specs.Grown.{IsNoneSmaller}

-- of all permitted lists with its sum, it has the smallest maximum
pub record HasLeastGreatest (old mins new : List ℕ) : Type 0 where
  pub permitted : IsPermitted old mins new
  pub least : (other : List ℕ) → IsPermitted old mins other → sum other ≡ sum new → greatest new ≤ greatest other

-- a permitted list in which no lowered entry is two or more below one that is above its minimum
pub record IsLevel (old mins new : List ℕ) : Type 0 where
  pub permitted : IsPermitted old mins new
  pub flat : (i j : ℕ) → at mins i < at new i → at new j < at old j → at new i ≤ at new j + 1

-- a permitted list whose greatest entry above its minimum is `top`, 0 if there is none
pub record IsHighest (old mins new : List ℕ) (top : ℕ) : Type 0 where
  pub permitted : IsPermitted old mins new
  pub most : (i : ℕ) → at mins i < at new i → at new i ≤ top
  pub reached : 0 < top → (i : ℕ) × (at mins i < at new i) × (at new i ≡ top)

-- each entry that is not zero in the old list is at least k
abbrev pub IsLeastNonzero : List ℕ → ℕ → List ℕ → Type 0
IsLeastNonzero old k new = (i : ℕ) → 0 < at old i → k ≤ at new i

-- of all lists with its sum in which no entry is smaller and zeros stay, it has the greatest
-- minimum of nonzero entries
pub record HasGreatestLeast (old new : List ℕ) : Type 0 where
  pub kept : IsNoneSmaller old new
  pub greatest : (other : List ℕ) (k : ℕ) → IsNoneSmaller old other → sum other ≡ sum new → IsLeastNonzero old k other → IsLeastNonzero old k new
