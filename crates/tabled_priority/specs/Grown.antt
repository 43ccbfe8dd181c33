-- The grown list of each priority. The arguments are the old state, the old list, the amount, the
-- new list and the new state.
use Rattle.std.specs.Prelude.{◌≡◌, ◌≢◌, ℕ, ◌+◌, ◌<◌, ◌≤◌, Bool, not, List, [], length, sum, max, if◌then◌else◌, ◌==◌}
use Rattle.tabled_priority.specs.Permitted.{at}
use Rattle.tabled_priority.specs.Shrunk.{ceiling, start, place_after, is_met}
use Rattle.tabled_priority.specs.Peak.{IsOutermost, IsGreatest}

-- what is added of an amount: nothing if all values are zero
abbrev pub added : List ℕ → ℕ → ℕ
added values by = if sum values == 0 then 0 else by

-- as long, no entry smaller, and zeros stay
pub record IsNoneSmaller (old new : List ℕ) : Type 0 where
  pub same_length : length new ≡ length old
  pub least : (i : ℕ) → at old i ≤ at new i
  pub zeros : (i : ℕ) → at old i ≡ 0 → at new i ≡ 0

-- no entry is smaller, and exactly the amount was added
pub record IsGrownFrom (old : List ℕ) (by : ℕ) (new : List ℕ) : Type 0 where
  pub kept : IsNoneSmaller old new
  pub total : sum new ≡ sum old + added old by

-- all is added at one index, which P chooses
pub record IsGrownAt (P : List ℕ → ℕ → Type 0) (old : List ℕ) (by : ℕ) (new : List ℕ) : Type 0 where
  pub grows : IsGrownFrom old by new
  pub place : ℕ
  pub named : 0 < added old by → P old place
  pub others : (i : ℕ) → i ≢ place → at new i ≡ at old i

-- all is added to the first nonzero value from one side
abbrev pub IsSideGrown : Bool → List ℕ → ℕ → List ℕ → Type 0
IsSideGrown right = IsGrownAt (λ values. IsOutermost right values [])

-- all is added to the greatest value, of equal ones by the side
abbrev pub IsMaxGrown : Bool → List ℕ → ℕ → List ℕ → Type 0
IsMaxGrown right = IsGrownAt (λ values. IsGreatest right values [])

-- each nonzero value is raised to a level, or one more on one side of an index: from it on if
-- `right`, else before it
pub record IsMinGrown (right : Bool) (old : List ℕ) (by : ℕ) (new : List ℕ) : Type 0 where
  pub grows : IsGrownFrom old by new
  pub level : ℕ
  pub place : ℕ
  pub raised : (i : ℕ) → 0 < at old i → at new i ≡ max (at old i) (ceiling (not right) level place i)

-- each nonzero value gains one in each round, and those from the stored index round to `last` one
-- more. The index after `last` is stored; if nothing is added, the stored index stays
pub record IsRoundGrown (kept : ℕ) (old : List ℕ) (by : ℕ) (new : List ℕ) (kept' : ℕ) : Type 0 where
  pub grows : IsGrownFrom old by new
  pub rounds : ℕ
  pub last : ℕ
  pub stays : added old by ≡ 0 → kept' ≡ kept
  pub moves : 0 < added old by → (0 < at old last) × (kept' ≡ place_after (length old) last)
  pub gains : (i : ℕ) → i < length old → 0 < added old by → 0 < at old i → at new i
      ≡ at old i + (if is_met (start kept (length old)) last i then rounds + 1 else rounds)
