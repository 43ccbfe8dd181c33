-- The indices that the priorities choose: the side or the stored index of a state, the values, the
-- minimums, the index.
use Rattle.std.specs.Prelude.{◌≡◌, ◌≢◌, ℕ, ◌-◌, ◌<◌, ◌≤◌, Bool, true, false, List, length, nat_le, if◌then◌else◌}
use Rattle.tabled_priority.specs.Permitted.{at}
use Rattle.tabled_priority.specs.Shrunk.{IsBefore, comes_before, start, is_met}

-- no value is above its minimum
abbrev pub NoneAbove : List ℕ → List ℕ → Type 0
NoneAbove values mins = (i : ℕ) → at values i ≤ at mins i

-- the index at a turn, of `count`, from the right if `right`, else from the left
abbrev pub place_at : Bool → ℕ → ℕ → ℕ
place_at right count turn = if right then count - 1 - turn else turn

-- the first value above its minimum, from the right if `right`, else from the left
pub record IsOutermost (right : Bool) (values mins : List ℕ) (i : ℕ) : Type 0 where
  pub above : at mins i < at values i
  pub first : (j : ℕ) → IsBefore right j i → at values j ≤ at mins j

abbrev pub IsLeftmost : List ℕ → List ℕ → ℕ → Type 0
IsLeftmost = IsOutermost false

abbrev pub IsRightmost : List ℕ → List ℕ → ℕ → Type 0
IsRightmost = IsOutermost true

-- the greatest value above its minimum, of equal ones the rightmost or the leftmost
pub record IsGreatest (right : Bool) (values mins : List ℕ) (i : ℕ) : Type 0 where
  pub above : at mins i < at values i
  pub most : (j : ℕ) → at mins j < at values j → at values j ≤ at values i
  pub side : (j : ℕ) → at mins j < at values j → at values j ≡ at values i → (if right then nat_le j i else nat_le i j) ≡ true

-- the smallest value above its minimum, of equal ones the rightmost or the leftmost
pub record IsLeast (right : Bool) (values mins : List ℕ) (i : ℕ) : Type 0 where
  pub above : at mins i < at values i
  pub first : (j : ℕ) → j ≢ i → at mins j < at values j → comes_before right values i j ≡ true

-- the next value above its minimum, round the list from the stored index
pub record IsNext (kept : ℕ) (values mins : List ℕ) (i : ℕ) : Type 0 where
  pub above : at mins i < at values i
  pub passed : (j : ℕ) → j < length values → j ≢ i → is_met (start kept (length values)) i j ≡ true → at values j ≤ at mins j
