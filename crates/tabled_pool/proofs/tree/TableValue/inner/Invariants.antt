use Rattle.tabled_pool.proofs.Names.{nodes}
use Rattle.tabled_pool.specs.Tree.{IsInner}
use Rattle.tabled_pool.proofs.tree.TableValue.inner.Given as goal

abbrev pub invariant-lists : goal.invariant-lists
invariant-lists l = IsInner l.self l.value

abbrev pub decreases-lists : goal.decreases-lists
decreases-lists l = nodes l.value
