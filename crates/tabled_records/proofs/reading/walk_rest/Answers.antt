use Rattle.tabled_records.proofs.ViewRuns.{walked_more}
use Rattle.tabled_records.proofs.reading.walk_rest.Goals as goal

pub loop-cell-preserved : goal.loop-cell-preserved
loop-cell-preserved g c = walked_more c.in-Some._cell c.in-Some.is c.loop-cell.invariant c.next.ensures.steps c.next.ensures.goes
