use Rattle.tabled_priority.proofs.Names.{at, length, low, ℕ, ◌<◌, ◌≡◌, ◌≤◌}
use Rattle.tabled_priority.proofs.column_changes.highest.Given as goal

abbrev pub invariant-loop-place : goal.invariant-loop-place
invariant-loop-place l = record {
  same : length l.new ≡ length l.old;
  within : (k : ℕ) → k < l.place → (low l.old l.mins k ≤ at l.new k) × (at l.new k ≤ at l.old k);
  most : (k : ℕ) → k < l.place → at l.mins k < at l.new k → at l.new k ≤ l.top;
  reached : 0 < l.top → (k : ℕ) × (at l.mins k < at l.new k) × (at l.new k ≡ l.top);
}
