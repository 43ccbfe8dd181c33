use Rattle.tabled_records.proofs.Names.{MayGive, Reads, length, map, ◌-◌, ◌≤◌}
use Rattle.tabled_records.proofs.reading.take_rows.Given as goal

abbrev pub invariant-rows : goal.invariant-rows
invariant-rows g l = record {
  reads : Reads g.I.Iterator.next_gives g.W.IntoIterator.into_iter_gives g.W.IntoIter.Iterator.next_gives l.initial.rows
      (map (λ row. row.items) l.taken.items) l.rows;
  may : MayGive g.I.Iterator.can_next g.I.Iterator.next_gives g.I.Iterator.remaining g.W.IntoIterator.into_iter_gives
      g.W.IntoIter.Iterator.can_next g.W.IntoIter.Iterator.remaining l.rows;
  within : length l.taken.items ≤ l.count;
}

abbrev pub decreases-rows : goal.decreases-rows
decreases-rows g l = l.count - length l.taken.items
