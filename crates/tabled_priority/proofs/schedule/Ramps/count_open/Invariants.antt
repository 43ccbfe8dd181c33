use Rattle.tabled_priority.proofs.Names.{counted, open_of, ◌≡◌, ◌≤◌}
use Rattle.tabled_priority.proofs.schedule.Ramps.count_open.Given as goal

abbrev pub invariant-loop-place : goal.invariant-loop-place
invariant-loop-place l = record {
  count : l.count ≡ open_of l.self l.place l.level;
  within : l.count ≤ l.place;
  steps : l.steps.count ≡ counted l.fn.steps.count l.place;
}
