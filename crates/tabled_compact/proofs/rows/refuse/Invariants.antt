use Rattle.tabled_compact.proofs.Names.{List, length, ◌+◌, ◌≡◌}
use Rattle.std.specs.Iterator.{size}
use Rattle.tabled_records.specs.Reading.{MayGive, Reads}
use Rattle.tabled_compact.proofs.rows.refuse.Given as goal

abbrev pub invariant-rows : goal.invariant-rows
invariant-rows g l = record {
  cells : List (List g.row.C.Denot);
  reads : Reads g.I.Iterator.next_gives g.W.IntoIterator.into_iter_gives g.W.IntoIter.Iterator.next_gives l.initial.rows cells l.rows;
  may : MayGive g.I.Iterator.can_next g.I.Iterator.next_gives g.I.Iterator.remaining g.W.IntoIterator.into_iter_gives
      g.W.IntoIter.Iterator.can_next g.W.IntoIter.Iterator.remaining l.rows;
  count : l.left + length cells ≡ l.skip;
}

abbrev pub decreases-rows : goal.decreases-rows
decreases-rows g l = size (g.I.Iterator.remaining l.rows)
