-- The shrunk list of each priority, described without steps, by an index, a level or a number of
-- rounds. The arguments of all relations are the old state (a side or a stored index), the old
-- list, the minimums, the amount, the new list and the new state.
use Rattle.std.specs.Prelude.{◌≡◌, ℕ, ◌+◌, ◌<◌, Bool, true, false, List, length, min, max, nat_lt, nat_le, if◌then◌else◌, ◌||◌, ◌&&◌, ◌==◌}
use Rattle.tabled_priority.specs.Permitted.{at, low, spare, taken, IsTakenFrom}

-- i comes before j: on its right if `right`, else on its left
abbrev pub IsBefore : Bool → ℕ → ℕ → Type 0
IsBefore true i j = j < i
IsBefore false i j = i < j

-- from one side: low limits before an index, old values after it
pub record IsSideShrunk (right : Bool) (old mins : List ℕ) (by : ℕ) (new : List ℕ) : Type 0 where
  pub takes : IsTakenFrom old mins by new
  pub place : ℕ
  pub before : (i : ℕ) → IsBefore right i place → at new i ≡ low old mins i
  pub after : (i : ℕ) → IsBefore right place i → at new i ≡ at old i

abbrev pub IsLeftShrunk : List ℕ → List ℕ → ℕ → List ℕ → Type 0
IsLeftShrunk = IsSideShrunk false

abbrev pub IsRightShrunk : List ℕ → List ℕ → ℕ → List ℕ → Type 0
IsRightShrunk = IsSideShrunk true

-- the ceiling at an index: a level, or one more on one side of an index p; before p if `right`, so
-- that the right gives first, else from p on
abbrev pub ceiling : Bool → ℕ → ℕ → ℕ → ℕ
ceiling right level p i = if nat_lt i p then (if right then level + 1 else level) else (if right then level else level + 1)

-- the greatest first: each entry is lowered to the ceiling, but not below its low limit
pub record IsMaxShrunk (right : Bool) (old mins : List ℕ) (by : ℕ) (new : List ℕ) : Type 0 where
  pub takes : IsTakenFrom old mins by new
  pub level : ℕ
  pub place : ℕ
  pub cut : (i : ℕ) → at new i ≡ max (low old mins i) (min (at old i) (ceiling right level place i))

-- of two indices the one with the smaller value comes first, of equal values the right one if
-- `right`, else the left one
abbrev pub comes_before : Bool → List ℕ → ℕ → ℕ → Bool
comes_before right values i j = nat_lt (at values i) (at values j) || ((at values i == at values j) && (if right then nat_lt j i else nat_lt i j))

-- the smallest first: among the values above their minimums, low limits before an index in the
-- order of values, and old values after it
pub record IsMinShrunk (right : Bool) (old mins : List ℕ) (by : ℕ) (new : List ℕ) : Type 0 where
  pub takes : IsTakenFrom old mins by new
  pub place : ℕ
  pub above : 0 < taken old mins by → at mins place < at old place
  pub before : (i : ℕ) → 0 < taken old mins by → at mins i < at old i → comes_before right old i place ≡ true → at new i ≡ low old mins i
  pub after : (i : ℕ) → 0 < taken old mins by → at mins i < at old i → comes_before right old place i ≡ true → at new i ≡ at old i

-- ---- round the list
-- where a round starts: at the stored index, or at 0 if that is out of range
abbrev pub start : ℕ → ℕ → ℕ
start kept count = if nat_lt kept count then kept else 0

-- the index after this one, and 0 after the last
abbrev pub place_after : ℕ → ℕ → ℕ
place_after count i = if nat_lt (i + 1) count then i + 1 else 0

-- the index is met on the way round the list from an index to another
abbrev pub is_met : ℕ → ℕ → ℕ → Bool
is_met from to i = if nat_le from to then nat_le from i && nat_le i to else (nat_le from i || nat_le i to)

-- in turn: each value has lost one in each round, as far as it could, and the values from the
-- stored index round to `last` have lost one more. The index after `last` is stored; if nothing is
-- taken, the stored index stays
pub record IsRoundShrunk (kept : ℕ) (old mins : List ℕ) (by : ℕ) (new : List ℕ) (kept' : ℕ) : Type 0 where
  pub takes : IsTakenFrom old mins by new
  pub rounds : ℕ
  pub last : ℕ
  pub stays : taken old mins by ≡ 0 → kept' ≡ kept
  pub moves : 0 < taken old mins by → kept' ≡ place_after (length old) last
  pub reached : 0 < taken old mins by → at new last + (rounds + 1) ≡ at old last
  pub losses : (i : ℕ) → i < length old → 0 < taken old mins by
      → at new i + min (spare old mins i) (if is_met (start kept (length old)) last i then rounds + 1 else rounds) ≡ at old i
