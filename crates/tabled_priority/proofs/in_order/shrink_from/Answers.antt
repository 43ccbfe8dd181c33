use Rattle.tabled_priority.proofs.Names.{arith, length}
use Rattle.tabled_priority.proofs.Between.{side_between}
use Rattle.tabled_priority.proofs.Passes.{side-shrunk}
use Rattle.tabled_priority.proofs.Visiting.{IsBounded-whole}
use Rattle.tabled_priority.proofs.in_order.shrink_from.Goals as goal

pub returns-clause-shrinks : goal.returns-clause-shrinks
returns-clause-shrinks c = side-shrunk _ _ _ _ _ _ _ c.take.ensures.taken (λ i pos. (pos, c.take.ensures.fits i))

pub returns-clause-between : goal.returns-clause-between
returns-clause-between c = side_between _ _ _ _ _ (returns-clause-shrinks c)

pub returns-clause-shrinking : goal.returns-clause-shrinking
returns-clause-shrinking c =
    let t = c.take.ensures.taken in
    record {
      permitted = t.permitted;
      total = t.total;
      at_most = t.at_most;
      visits = IsBounded-whole _ _ _ _ (length c.args.values.now) (omega arith) c.take.ensures.steps (omega arith);
    }
