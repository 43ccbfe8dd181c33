use Rattle.tabled_records.proofs.Names.{get_or, length, ℕ, ◌≡◌}
use Rattle.tabled_records.proofs.joined_records.push_ends.Given as goal

abbrev pub invariant-ones : goal.invariant-ones
invariant-ones l = record {
  same : (k : ℕ) → get_or l.lines.items k 1 ≡ get_or l.fn.lines.items k 1;
  count : length l.lines.items ≡ l._before;
}
