use Rattle.tabled_records.proofs.ViewRuns.{Passing}
use Rattle.tabled_records.proofs.limits.LaterRowsIterator.next.Given as goal

abbrev pub invariant-loop-self : goal.invariant-loop-self
invariant-loop-self g l = Passing g.I.Iterator.can_next g.I.Iterator.next_gives g.I.Iterator.remaining g.I.Item.IntoIterator.into_iter_gives
    g.I.Item.IntoIter.Iterator.can_next g.I.Item.IntoIter.Iterator.next_gives g.I.Item.IntoIter.Iterator.remaining l.initial.self l.self

abbrev pub decreases-loop-self : goal.decreases-loop-self
decreases-loop-self g l = l.self.left
