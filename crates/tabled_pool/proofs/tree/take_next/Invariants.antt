use Rattle.tabled_pool.proofs.Names.{nodes_in, ◌≤◌}
use Rattle.tabled_pool.proofs.tree.take_next.Given as goal

abbrev pub invariant-lists : goal.invariant-lists
invariant-lists l = nodes_in l.rest.items ≤ nodes_in l.fn.left.items

abbrev pub decreases-lists : goal.decreases-lists
decreases-lists l = nodes_in l.rest.items
