use Rattle.tabled_priority.proofs.Names.{counted, first_level, greatest_usize, last_level, min, total_amount, ◌≡◌}
use Rattle.tabled_priority.proofs.schedule.total_amount.Given as goal

abbrev pub invariant-loop-place : goal.invariant-loop-place
invariant-loop-place l = record {
  total : l.total ≡ min (total_amount (first_level l.schedule l.values l.mins) (last_level l.schedule l.values l.mins)
      l.place l.level) greatest_usize;
  steps : l.steps.count ≡ counted l.fn.steps.count l.place;
}
