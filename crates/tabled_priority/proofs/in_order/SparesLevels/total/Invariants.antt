use Rattle.tabled_priority.proofs.Names.{counted, greatest_usize, min, spare_if_up_to, sum_below, ◌≡◌}
use Rattle.tabled_priority.proofs.in_order.SparesLevels.total.Given as goal

abbrev pub invariant-loop-place : goal.invariant-loop-place
invariant-loop-place l = record {
  total : l.total ≡ min (sum_below (spare_if_up_to l.self.values.now l.self.mins.now l.level) l.place) greatest_usize;
  steps : l.steps.count ≡ counted l.fn.steps.count l.place;
}
