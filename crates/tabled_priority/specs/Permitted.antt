-- Lists that may result from shrinking. A value past the end of a list is 0, so that an empty list
-- of minimums is all zeros.
use Rattle.std.specs.Prelude.{◌≡◌, ℕ, ◌+◌, ◌-◌, ◌<◌, ◌≤◌, ◌⊎◌, List, length, sum, min, slice_index, slice_set}
use Rattle.tabled_priority.specs.Sums.{sum_below}

-- the value at an index, 0 past the end
abbrev pub at : List ℕ → ℕ → ℕ
at xs i = slice_index xs i

-- the list with one taken at an index
abbrev pub lowered : List ℕ → ℕ → List ℕ
lowered xs i = slice_set xs i (at xs i - 1)

-- the list with one added at an index
abbrev pub raised : List ℕ → ℕ → List ℕ
raised xs i = slice_set xs i (at xs i + 1)

-- there are as many minimums as values, or none
abbrev pub FitsMinimums : List ℕ → List ℕ → Type 0
FitsMinimums values mins = (length mins ≡ 0) ⊎ (length mins ≡ length values)

-- the index is in range, and its value is above its minimum
abbrev pub IsAbove : List ℕ → List ℕ → ℕ → Type 0
IsAbove values mins i = (i < length values) × (at mins i < at values i)

-- the low limit at an index: the lesser of its value and its minimum
abbrev pub low : List ℕ → List ℕ → ℕ → ℕ
low values mins i = min (at values i) (at mins i)

-- what can be taken at an index
abbrev pub spare : List ℕ → List ℕ → ℕ → ℕ
spare values mins i = at values i - at mins i

-- what can be taken in all
abbrev pub spare_total : List ℕ → List ℕ → ℕ
spare_total values mins = sum_below (spare values mins) (length values)

-- what is taken of an amount
abbrev pub taken : List ℕ → List ℕ → ℕ → ℕ
taken values mins by = min by (spare_total values mins)

-- a permitted list: as long, and each entry between its low limit and its old value
pub record IsPermitted (old mins new : List ℕ) : Type 0 where
  pub same_length : length new ≡ length old
  pub least : (i : ℕ) → low old mins i ≤ at new i
  pub most : (i : ℕ) → at new i ≤ at old i

-- permitted, and the amount was taken, or all that can be taken where that is less
pub record IsTakenFrom (old mins : List ℕ) (by : ℕ) (new : List ℕ) : Type 0 where
  pub permitted : IsPermitted old mins new
  pub total : sum new + taken old mins by ≡ sum old

-- an entry that was lowered, and not to its low limit
abbrev pub IsBetween : List ℕ → List ℕ → List ℕ → ℕ → Type 0
IsBetween old mins new i = (low old mins i < at new i) × (at new i < at old i)

-- at most one entry is between its limits
abbrev pub HasOneBetween : List ℕ → List ℕ → List ℕ → Type 0
HasOneBetween old mins new = (i j : ℕ) → IsBetween old mins new i → IsBetween old mins new j → i ≡ j

-- entries that end above their minimums lost equally much, or differ by one
abbrev pub HasEvenLosses : List ℕ → List ℕ → List ℕ → Type 0
HasEvenLosses old mins new = (i j : ℕ) → at mins i < at new i → at mins j < at new j → at old i - at new i ≤ (at old j - at new j) + 1
