use Rattle.tabled_priority.proofs.Names.{at, ℕ, ◌+◌, ◌<◌, ◌≤◌}
use Rattle.tabled_priority.proofs.column_changes.is_level.Given as goal

abbrev pub invariant-loop-place : goal.invariant-loop-place
invariant-loop-place l = (k : ℕ) → k < l.place → at l.new k < at l.old k → l.top ≤ at l.new k + 1
