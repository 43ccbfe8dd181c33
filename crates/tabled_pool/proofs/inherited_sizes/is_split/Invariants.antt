use Rattle.tabled_pool.proofs.Names.{drop, ◌≡◌}
use Rattle.tabled_pool.specs.Inherited.{is_split}
use Rattle.tabled_pool.proofs.inherited_sizes.is_split.Given as goal

abbrev pub invariant-loop-entry : goal.invariant-loop-entry
invariant-loop-entry l = is_split (drop l.entry-index l.sizes) l.left l.at ≡ is_split l.sizes l.size l.place
