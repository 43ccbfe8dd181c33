use Rattle.tabled_compact.proofs.Names.{IsSpent, List, map, ◌≡◌}
use Rattle.std.specs.Iterator.{size}
use Rattle.tabled_records.specs.Reading.{MayGive, Reads}
use Rattle.tabled_compact.proofs.Putting.{HavePut}
use Rattle.tabled_compact.proofs.rows.RowPrinter.print_wanted_rows.Given as goal

abbrev pub invariant-rows : goal.invariant-rows
invariant-rows g l = record {
  cells : List (List g.row.C.Denot);
  reads : Reads g.I.Iterator.next_gives g.W.IntoIterator.into_iter_gives g.W.IntoIter.Iterator.next_gives l.initial.rows cells l.rows;
  may : MayGive g.I.Iterator.can_next g.I.Iterator.next_gives g.I.Iterator.remaining g.W.IntoIterator.into_iter_gives
      g.W.IntoIter.Iterator.can_next g.W.IntoIter.Iterator.remaining l.rows;
  put : HavePut l.initial.self.lines.columns l.fn.window (g.S.TextSink.sent l.initial.sink) (g.S.TextSink.sent l.sink)
      l.self.lines.begun l.left (map (map g.C.CellText.text) cells);
  left : IsSpent l.left → ⊥;
  same : l.self.lines.columns ≡ l.initial.self.lines.columns;
}

abbrev pub decreases-rows : goal.decreases-rows
decreases-rows g l = size (g.I.Iterator.remaining l.rows)
