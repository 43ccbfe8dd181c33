use Rattle.tabled_pool.proofs.Names.{length, nodes, nodes_in, ◌*◌, ◌+◌}
use Rattle.tabled_pool.proofs.Sums.{Measuring}
use Rattle.tabled_pool.proofs.sizes.+sizes.Given as goal

abbrev pub invariant-measure_list-children : goal.invariant-measure_list-children
invariant-measure_list-children l = Measuring l.direction l.spacing l.children l.left l.all l.fn.list l.list

abbrev pub decreases-measure_list-children : goal.decreases-measure_list-children
decreases-measure_list-children l = length l.left

abbrev pub decreases-measure_list : goal.decreases-measure_list
decreases-measure_list l = 2 * nodes_in l.children.now + 1

abbrev pub decreases-measure : goal.decreases-measure
decreases-measure l = 2 * nodes l.value.now
