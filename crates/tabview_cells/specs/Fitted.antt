-- Widths that shrink to floors: columns whose floor is their width don't give. Lists are read by
-- index, 0 past the end.
use Rattle.std.specs.Prelude.{◌≡◌, ◌⊎◌, ℕ, ◌+◌, ◌<◌, ◌≤◌, List, max, min, sum}
use Rattle.tabled_priority.specs.Permitted.{at}

-- the width below which a column doesn't shrink: the greater of its floor and its minimum
abbrev pub floor_at : List ℕ → List ℕ → ℕ → ℕ
floor_at floors mins i = max (at mins i) (at floors i)

-- a column can give: it is above its floor
pub record CanGive (floors values mins : List ℕ) (i : ℕ) : Type 0 where
  pub above : floor_at floors mins i < at values i

abbrev pub NoneGives : List ℕ → List ℕ → List ℕ → Type 0
NoneGives floors values mins = (i : ℕ) → CanGive floors values mins i → ⊥

-- the widest column that can give
pub record IsWidest (floors values mins : List ℕ) (i : ℕ) : Type 0 where
  pub gives : CanGive floors values mins i
  pub widest : (j : ℕ) → CanGive floors values mins j → at values j ≤ at values i

-- columns shrink, none below its floor. They lose `by` together, or less if none can give more
pub record GivesToFloors (floors old mins : List ℕ) (by : ℕ) (new : List ℕ) : Type 0 where
  pub least : (i : ℕ) → min (at old i) (floor_at floors mins i) ≤ at new i
  pub most : (i : ℕ) → at new i ≤ at old i
  pub total : (sum new + by ≡ sum old) ⊎ ((sum old < sum new + by) × NoneGives floors new mins)
