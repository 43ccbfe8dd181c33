use Rattle.tabled_priority.proofs.Names.{List, changed, counted, length, sum, ℕ, ◌*◌, ◌+◌, ◌-◌, ◌≡◌, ◌≤◌}
use Rattle.tabled_priority.specs.Grown.{IsNoneSmaller}
use Rattle.tabled_priority.proofs.priority.Peaker.grow.Given as goal

abbrev pub invariant-loop-added : goal.invariant-loop-added
invariant-loop-added g l = record {
  onward : (w : List ℕ) (u : g.row.Self.Denot) → g.Self.Peaker.grows l.self l.sizes (l.by - l.added) w u
      → g.Self.Peaker.grows l.fn.self l.fn.sizes l.by w u;
  kept : IsNoneSmaller l.fn.sizes l.sizes;
  total : sum l.sizes ≡ sum l.fn.sizes + l.added;
  visits : counted l.fn.steps.count (changed l.fn.sizes l.sizes) ≤ l.steps.count;
  reads : l.steps.count ≡ counted l.fn.steps.count (l.added * length l.fn.sizes);
}
