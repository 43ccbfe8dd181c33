-- Of private steps: no public call promises this.
-- How sizes change while a level rises. Each column takes nothing up to a first level, then one a
-- level up to a last level, and then no more.
use Rattle.std.specs.Prelude.{◌≡◌, ℕ, ◌+◌, ◌-◌, ◌<◌, ◌≤◌, ◌^◌, ⊤, Bool, true, false, List, length, sum, min, nat_lt, nat_le, if◌then◌else◌, ◌&&◌, ◌==◌, MatchBool}
use Rattle.tabled_priority.specs.Grown.{IsMinGrown, IsRoundGrown, added}
use Rattle.tabled_priority.specs.Numbers.{greatest_usize}
use Rattle.tabled_priority.specs.declared.schedule.Ramps.{Ramps}
use Rattle.tabled_priority.specs.declared.schedule.Schedule.{Schedule}
use Rattle.tabled_priority.specs.declared.schedule.Schedule.TheVariants.{Depths, Rounds, Heights, Gains}
use Rattle.tabled_priority.specs.Permitted.{at, taken}
use Rattle.tabled_priority.specs.Shrunk.{IsMaxShrunk, IsRoundShrunk, is_met, start}
use Rattle.tabled_priority.specs.Sums.{sum_below, one_if}

-- the first level of a column
abbrev pub first_level : Schedule → List ℕ → List ℕ → ℕ → ℕ
first_level (Depths _) values mins i = greatest_usize - at values i
first_level (Rounds _) values mins i = 0
first_level (Heights _) values mins i = at values i
first_level (Gains _) values mins i = 0

-- the last level of a column
abbrev pub last_level : Schedule → List ℕ → List ℕ → ℕ → ℕ
last_level (Depths _) values mins i = greatest_usize - at mins i
last_level (Rounds _) values mins i = at values i - at mins i
last_level (Heights _) values mins i = if at values i == 0 then 0 else greatest_usize
last_level (Gains _) values mins i = if at values i == 0 then 0 else greatest_usize

-- what a column takes up to a level
abbrev pub amount : (ℕ → ℕ) → (ℕ → ℕ) → ℕ → ℕ → ℕ
amount from to level i = min level (to i) - from i

-- what the first n columns take up to a level
abbrev pub total_amount : (ℕ → ℕ) → (ℕ → ℕ) → ℕ → ℕ → ℕ
total_amount from to n level = sum_below (amount from to level) n

-- the column takes one more at this level
abbrev pub is_open : (ℕ → ℕ) → (ℕ → ℕ) → ℕ → ℕ → Bool
is_open from to level i = nat_le (from i) level && nat_lt level (to i)

abbrev pub open_count : (ℕ → ℕ) → (ℕ → ℕ) → ℕ → ℕ → ℕ
open_count from to n level = sum_below (λ i. one_if (is_open from to level i)) n

-- ---- the same of columns that are borrowed
abbrev pub ramp_count : Ramps → ℕ
ramp_count ramps = length ramps.values.now

abbrev pub first_of : Ramps → ℕ → ℕ
first_of ramps = first_level ramps.schedule ramps.values.now ramps.mins.now

abbrev pub last_of : Ramps → ℕ → ℕ
last_of ramps = last_level ramps.schedule ramps.values.now ramps.mins.now

abbrev pub total_of : Ramps → ℕ → ℕ
total_of ramps = total_amount (first_of ramps) (last_of ramps) (ramp_count ramps)

abbrev pub open_of : Ramps → ℕ → ℕ → ℕ
open_of ramps = open_count (first_of ramps) (last_of ramps)

-- ---- the level that is reached
-- a level that takes less than is wanted; each greater first or last level of a column takes enough
pub record IsBase (from to : ℕ → ℕ) (n wanted level : ℕ) : Type 0 where
  pub below : total_amount from to n level < wanted
  pub starts : (i : ℕ) → i < n → level < from i → wanted ≤ total_amount from to n (from i)
  pub ends : (i : ℕ) → i < n → level < to i → wanted ≤ total_amount from to n (to i)

-- the highest level that takes less than is wanted; at most one for each open column is missing
pub record IsReached (from to : ℕ → ℕ) (n wanted level rest : ℕ) : Type 0 where
  pub total : total_amount from to n level + rest ≡ wanted
  pub some : 0 < rest
  pub enough : rest ≤ open_count from to n level

-- ---- the columns that take one more
-- the number of open columns from an index round the list to another is the rest
pub record IsSpan (from to : ℕ → ℕ) (n level rest first last : ℕ) : Type 0 where
  pub first_in : first < n
  pub last_in : last < n
  pub count : sum_below (λ i. one_if (is_open from to level i && is_met first last i)) n ≡ rest

-- those on the right take one more
abbrev pub is_from_right : Schedule → Bool
is_from_right (Depths right) = right
is_from_right (Rounds _) = false
is_from_right (Heights right) = right
is_from_right (Gains _) = false

-- else those from an index on do, round the list
abbrev pub start_of : Schedule → ℕ
start_of (Depths _) = 0
start_of (Rounds kept) = kept
start_of (Heights _) = 0
start_of (Gains kept) = kept

-- the span ends at the right, or begins at the index and ends with an open column
abbrev pub IsSpanBy : Schedule → (ℕ → ℕ) → (ℕ → ℕ) → ℕ → ℕ → ℕ → ℕ → Type 0
IsSpanBy schedule from to n level first last = MatchBool (is_from_right schedule) (last + 1 ≡ n)
    ((first ≡ start (start_of schedule) n) × (is_open from to level last ≡ true))

-- what a column takes if those from an index round the list to another take one more, as far as
-- they can
abbrev pub share : (ℕ → ℕ) → (ℕ → ℕ) → ℕ → ℕ → ℕ → ℕ → ℕ
share from to level first last i = amount from to (level + one_if (is_met first last i)) i

-- ---- the change
-- a size can take an amount
abbrev pub CanChange : Schedule → ℕ → ℕ → Type 0
CanChange (Depths _) value x = x ≤ value
CanChange (Rounds _) value x = x ≤ value
CanChange (Heights _) value x = value + x < 2 ^ 64
CanChange (Gains _) value x = value + x < 2 ^ 64

-- the size after it
abbrev pub IsChanged : Schedule → ℕ → ℕ → ℕ → Type 0
IsChanged (Depths _) value x new = new + x ≡ value
IsChanged (Rounds _) value x new = new + x ≡ value
IsChanged (Heights _) value x new = new ≡ value + x
IsChanged (Gains _) value x new = new ≡ value + x

-- sizes that grow by an amount stay below 2 ^ 64
abbrev pub StaysInRange : Schedule → List ℕ → ℕ → Type 0
StaysInRange (Depths _) values by = ⊤
StaysInRange (Rounds _) values by = ⊤
StaysInRange (Heights _) values by = sum values + by < 2 ^ 64
StaysInRange (Gains _) values by = sum values + by < 2 ^ 64

-- what is taken or added of an amount
abbrev pub amount_by : Schedule → List ℕ → List ℕ → ℕ → ℕ
amount_by (Depths _) old mins by = taken old mins by
amount_by (Rounds _) old mins by = taken old mins by
amount_by (Heights _) old mins by = added old by
amount_by (Gains _) old mins by = added old by

-- the new list, and the index that is stored if it goes round the list
abbrev pub IsScheduled : Schedule → List ℕ → List ℕ → ℕ → List ℕ → ℕ → Type 0
IsScheduled (Depths right) old mins by new kept' = IsMaxShrunk right old mins by new
IsScheduled (Rounds kept) old mins by new kept' = IsRoundShrunk kept old mins by new kept'
IsScheduled (Heights right) old mins by new kept' = IsMinGrown right old by new
IsScheduled (Gains kept) old mins by new kept' = IsRoundGrown kept old by new kept'
