use Rattle.tabled_priority.proofs.Names.{at, counted, length, spare_up_to, ℕ, ◌*◌, ◌+◌, ◌<◌, ◌≤◌}
use Rattle.tabled_priority.proofs.in_order.find_sizes.Given as goal

abbrev pub invariant-loop-place : goal.invariant-loop-place
invariant-loop-place l = record {
  below : spare_up_to l.spares.values.now l.spares.mins.now l.bracket.base < l.wanted;
  enough : l.wanted ≤ spare_up_to l.spares.values.now l.spares.mins.now l.bracket.ceiling;
  outside : (i : ℕ) → i < l.place → l.bracket.base < at l.spares.values.now i → l.bracket.ceiling ≤ at l.spares.values.now i;
  fewest : l.fn.steps.count ≤ l.steps.count;
  most : l.steps.count ≤ counted l.fn.steps.count (l.place * (2 * length l.spares.values.now + 1));
}
