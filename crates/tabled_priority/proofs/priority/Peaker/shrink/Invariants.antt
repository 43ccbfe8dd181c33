use Rattle.tabled_priority.proofs.Names.{IsPermitted, List, changed, counted, length, sum, ℕ, ◌*◌, ◌+◌, ◌-◌, ◌≡◌, ◌≤◌}
use Rattle.tabled_priority.proofs.priority.Peaker.shrink.Given as goal

abbrev pub invariant-loop-taken : goal.invariant-loop-taken
invariant-loop-taken g l = record {
  onward : (w : List ℕ) (u : g.row.Self.Denot) → g.Self.Peaker.shrinks l.self l.sizes l.mins (l.by - l.taken) w u
      → g.Self.Peaker.shrinks l.fn.self l.fn.sizes l.mins l.by w u;
  permitted : IsPermitted l.fn.sizes l.mins l.sizes;
  total : sum l.sizes + l.taken ≡ sum l.fn.sizes;
  visits : counted l.fn.steps.count (changed l.fn.sizes l.sizes) ≤ l.steps.count;
  reads : l.steps.count ≡ counted l.fn.steps.count (l.taken * length l.fn.sizes);
}
