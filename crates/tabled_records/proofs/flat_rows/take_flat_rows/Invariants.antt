use Rattle.tabled_records.proofs.Names.{AreRanges, MayGive, Reads, length, parts, ◌-◌, ◌≤◌}
use Rattle.tabled_records.proofs.flat_rows.take_flat_rows.Given as goal

abbrev pub invariant-rows : goal.invariant-rows
invariant-rows g l = record {
  reads : Reads g.I.Iterator.next_gives g.W.IntoIterator.into_iter_gives g.W.IntoIter.Iterator.next_gives l.initial.rows
      (parts l.cells.items l.ranges) l.rows;
  may : MayGive g.I.Iterator.can_next g.I.Iterator.next_gives g.I.Iterator.remaining g.W.IntoIterator.into_iter_gives
      g.W.IntoIter.Iterator.can_next g.W.IntoIter.Iterator.remaining l.rows;
  inside : AreRanges (length l.cells.items) l.ranges;
  within : length l.ranges ≤ l.count;
}

abbrev pub decreases-rows : goal.decreases-rows
decreases-rows g l = l.count - length l.ranges
