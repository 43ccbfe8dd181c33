use Rattle.tabled_pool.proofs.Names.{left_in, tree_of, ◌≡◌}
use Rattle.tabled_pool.specs.Tree.{within}
use Rattle.tabled_pool.proofs.tree.TableValue.clone.Given as goal

abbrev pub invariant-values : goal.invariant-values
invariant-values l = within l.levels.items (tree_of l.copy) ≡ tree_of l.self

abbrev pub decreases-values : goal.decreases-values
decreases-values l = left_in l.levels.items
