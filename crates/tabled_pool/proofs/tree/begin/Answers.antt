use Rattle.tabled_pool.proofs.Names.{rules}
use Rattle.tabled_pool.proofs.Levels.{begun}
use Rattle.tabled_pool.proofs.tree.begin.Goals as goal

pub returns : goal.returns
returns c = rw c.in_ok-push.ensures.items (begun _ _ _ _ c.in_ok-copies.ensures.items (search rules))
