use Rattle.tabled_pool.proofs.Names.{nodes}
use Rattle.tabled_pool.specs.Tree.{GoesDown}
use Rattle.tabled_pool.proofs.tree.copy_first.Given as goal

abbrev pub invariant-values : goal.invariant-values
invariant-values l = GoesDown l.fn.levels.items l.fn.value l.levels.items l.now

abbrev pub decreases-values : goal.decreases-values
decreases-values l = nodes l.now
