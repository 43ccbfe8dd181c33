use Rattle.tabled_priority.proofs.Names.{IsChanged, at, counted, first_level, last_level, length, share, ℕ, ◌<◌, ◌≡◌, ◌≤◌}
use Rattle.tabled_priority.proofs.column_changes.change_to.Given as goal

abbrev pub invariant-loop-place : goal.invariant-loop-place
invariant-loop-place l = record {
  same_length : length l.sizes ≡ length l.fn.sizes;
  done : (i : ℕ) → i < l.place → IsChanged l.schedule (at l.fn.sizes i)
      (share (first_level l.schedule l.fn.sizes l.mins) (last_level l.schedule l.fn.sizes l.mins)
      l.span.level l.span.first l.span.last i) (at l.sizes i);
  rest : (i : ℕ) → l.place ≤ i → at l.sizes i ≡ at l.fn.sizes i;
  steps : l.steps.count ≡ counted l.fn.steps.count l.place;
}
