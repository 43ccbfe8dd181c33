-- Of private steps: no public call promises this.
-- What columns give if the smallest give first.
use Rattle.std.specs.Prelude.{◌≡◌, ℕ, ◌+◌, ◌<◌, ◌≤◌, ◌⊎◌, ◌&&◌, Bool, List, length, nat_le, nat_lt, if◌then◌else◌, sum}
use Rattle.tabled_priority.specs.declared.schedule.Bracket.{Bracket}
use Rattle.tabled_priority.specs.Permitted.{IsPermitted, at, low, spare}
use Rattle.tabled_priority.specs.Shrunk.{IsBefore}
use Rattle.tabled_priority.specs.Sums.{sum_below}

-- what a column can give if it is at most as wide as a size
abbrev pub spare_if_up_to : List ℕ → List ℕ → ℕ → ℕ → ℕ
spare_if_up_to values mins size i = if nat_le (at values i) size then spare values mins i else 0

-- what the columns up to a size can give
abbrev pub spare_up_to : List ℕ → List ℕ → ℕ → ℕ
spare_up_to values mins size = sum_below (spare_if_up_to values mins size) (length values)

-- a column has one of the sizes that give
abbrev pub IsWithin : Bracket → List ℕ → ℕ → Type 0
IsWithin sizes values i = (sizes.base < at values i) × (at values i ≤ sizes.ceiling)

-- what a column gives if it has one of the sizes
abbrev pub spare_within : Bracket → List ℕ → List ℕ → ℕ → ℕ
spare_within sizes values mins i =
    if (nat_lt sizes.base (at values i) && nat_le (at values i) sizes.ceiling) then spare values mins i else 0

-- columns of some sizes gave all they can before an index, and nothing after it; if less than the
-- amount was taken, all of them gave all they can
pub record IsTakenInOrder (right : Bool) (sizes : Bracket) (old mins : List ℕ) (by : ℕ) (new : List ℕ) (taken : ℕ) : Type 0 where
  pub permitted : IsPermitted old mins new
  pub total : sum new + taken ≡ sum old
  pub at_most : taken ≤ by
  pub last : ℕ
  pub above : 0 < taken → IsWithin sizes old last × (at mins last < at old last)
  pub before : (i : ℕ) → IsBefore right i last → IsWithin sizes old i → at new i ≡ low old mins i
  pub after : (i : ℕ) → IsBefore right last i → at new i ≡ at old i
  pub all : taken < by → (i : ℕ) → IsWithin sizes old i → at new i ≡ low old mins i
  pub others : (i : ℕ) → (at old i ≤ sizes.base) ⊎ (sizes.ceiling < at old i) → at new i ≡ at old i
