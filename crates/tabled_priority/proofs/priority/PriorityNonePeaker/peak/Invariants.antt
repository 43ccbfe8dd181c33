use Rattle.tabled_priority.proofs.Names.{at, length, start, ℕ, ◌+◌, ◌<◌, ◌≡◌, ◌≤◌}
use Rattle.tabled_priority.proofs.priority.PriorityNonePeaker.peak.Given as goal

abbrev pub invariant-loop-turn : goal.invariant-loop-turn
invariant-loop-turn l = record {
  counted : l.count ≡ length l.sizes;
  kept : l.self.kept ≡ l.fn.self.kept;
  started : l.start ≡ start l.fn.self.kept l.count;
  ahead : l.start + l._turn < l.count → l.place ≡ l.start + l._turn;
  around : l.count ≤ l.start + l._turn → l.place + l.count ≡ l.start + l._turn;
  passed : (j : ℕ) → j < l.count → l.start ≤ j → j < l.start + l._turn → at l.sizes j ≤ at l.mins j;
  wrapped : (j : ℕ) → j + l.count < l.start + l._turn → at l.sizes j ≤ at l.mins j;
}
