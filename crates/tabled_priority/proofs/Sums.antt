-- Sums of the first numbers of a sequence.
use Rattle.tabled_priority.proofs.Names.{arith, suc, sum_below, sum_below-prefix, ℕ, ◌+◌, ◌<◌, ◌≤◌}

-- a part of a sum is at most the whole
pub sum_step : (f : ℕ → ℕ) (i n : ℕ) → i < n → sum_below f i + f i ≤ sum_below f n
sum_step f i n h = sum_below-prefix f (suc i) n (omega arith)
