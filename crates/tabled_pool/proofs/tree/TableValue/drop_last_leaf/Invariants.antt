use Rattle.tabled_pool.proofs.Names.{nodes, nodes_in, ◌+◌, ◌≡◌}
use Rattle.tabled_pool.proofs.tree.TableValue.drop_last_leaf.Given as goal

abbrev pub invariant-lists : goal.invariant-lists
invariant-lists l = nodes l.value + nodes_in l.rest.items ≡ nodes l.fn.self + nodes_in l.fn.above.items

abbrev pub decreases-lists : goal.decreases-lists
decreases-lists l = nodes l.value
