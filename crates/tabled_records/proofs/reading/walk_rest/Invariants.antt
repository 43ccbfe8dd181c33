use Rattle.tabled_records.proofs.Names.{Walked, size}
use Rattle.tabled_records.proofs.reading.walk_rest.Given as goal

abbrev pub invariant-loop-cell : goal.invariant-loop-cell
invariant-loop-cell g l = Walked g.I.Iterator.can_next g.I.Iterator.next_gives g.I.Iterator.remaining l.initial.cells l.cells

abbrev pub decreases-loop-cell : goal.decreases-loop-cell
decreases-loop-cell g l = size (g.I.Iterator.remaining l.cells)
