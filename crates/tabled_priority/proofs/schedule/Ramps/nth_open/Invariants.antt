use Rattle.tabled_priority.proofs.Names.{counted, open_of, ◌<◌, ◌≡◌}
use Rattle.tabled_priority.proofs.schedule.Ramps.nth_open.Given as goal

abbrev pub invariant-loop-place : goal.invariant-loop-place
invariant-loop-place l = record {
  before : l.before ≡ open_of l.self l.place l.level;
  fewer : l.before < l.nth;
  steps : l.steps.count ≡ counted l.fn.steps.count l.place;
}
