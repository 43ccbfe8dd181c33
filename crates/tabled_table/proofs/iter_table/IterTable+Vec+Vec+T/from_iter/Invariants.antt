use Rattle.tabled_table.proofs.Names.{MayGive, Reads, map, size}
use Rattle.tabled_table.proofs.iter_table.IterTable+Vec+Vec+T.from_iter.Given as goal

abbrev pub invariant-rows : goal.invariant-rows
invariant-rows g l = let rows = g.I.IterRows.IntoIter.Iterator in let cells = g.I.IterColumns in record {
  reads : Reads rows.next_gives cells.IntoIterator.into_iter_gives cells.IntoIter.Iterator.next_gives l.initial.rows
      (map (λ row. row.items) l.records.items) l.rows;
  may : MayGive rows.can_next rows.next_gives rows.remaining cells.IntoIterator.into_iter_gives
      cells.IntoIter.Iterator.can_next cells.IntoIter.Iterator.remaining l.rows;
}

abbrev pub decreases-rows : goal.decreases-rows
decreases-rows g l = size (g.I.IterRows.IntoIter.Iterator.remaining l.rows)
