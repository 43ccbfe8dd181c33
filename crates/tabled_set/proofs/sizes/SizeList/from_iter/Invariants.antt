use Rattle.tabled_set.proofs.Names.{◌≡◌}
use Rattle.tabled_set.proofs.sizes.SizeList.from_iter.Given as goal

abbrev pub invariant-sizes : goal.invariant-sizes
invariant-sizes g l = l.list.items ≡ l.yielded
