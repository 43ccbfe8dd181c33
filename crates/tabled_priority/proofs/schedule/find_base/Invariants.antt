use Rattle.tabled_priority.proofs.Names.{ramp_count, counted, first_of, last_of, ℕ, ◌*◌, ◌+◌, ◌<◌, ◌≤◌}
use Rattle.tabled_priority.specs.Schedule.{total_of}
use Rattle.tabled_priority.proofs.schedule.find_base.Given as goal

abbrev pub invariant-loop-place : goal.invariant-loop-place
invariant-loop-place l = record {
  below : total_of l.ramps l.bracket.base < l.wanted;
  enough : l.wanted ≤ total_of l.ramps l.bracket.ceiling;
  starts : (i : ℕ) → i < l.place → l.bracket.base < first_of l.ramps i → l.bracket.ceiling ≤ first_of l.ramps i;
  ends : (i : ℕ) → i < l.place → l.bracket.base < last_of l.ramps i → l.bracket.ceiling ≤ last_of l.ramps i;
  fewest : l.fn.steps.count ≤ l.steps.count;
  most : l.steps.count ≤ counted l.fn.steps.count (l.place * (4 * ramp_count l.ramps + 1));
}
