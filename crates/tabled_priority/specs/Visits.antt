-- How often columns are read.
use Rattle.std.specs.Prelude.{ℕ, ◌+◌, ◌-◌, ◌*◌, ◌≤◌, List, [], ◌∷◌, length, min, cond, ◌==◌}
use Rattle.tabled_priority.specs.Numbers.{greatest_usize}

-- how many entries differ
abbrev pub changed : List ℕ → List ℕ → ℕ
changed [] ys = 0
changed (x ∷ xs) [] = 1 + changed xs []
changed (x ∷ xs) (y ∷ ys) = cond (x == y) 0 1 + changed xs ys

-- the count after more visits, `greatest_usize` at most
abbrev pub counted : ℕ → ℕ → ℕ
counted before visits = before + min visits (greatest_usize - before)

-- how often the order is asked if one is taken or added at a time: for each one, and a last time if
-- it then names no index
abbrev pub times_asked : ℕ → ℕ → ℕ
times_asked by amount = min by (amount + 1)

-- the count of a change: each changed column was read at least once, and c columns at most 8 (c +
-- 1) (c + 1) times, whatever the amount
pub record IsBounded (old new : List ℕ) (before after : ℕ) : Type 0 where
  pub fewest : counted before (changed old new) ≤ after
  pub most : after ≤ counted before (8 * (length old + 1) * (length old + 1))
