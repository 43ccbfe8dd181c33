use Rattle.tabled_table.proofs.Names.{HasPutMore, List, MatchOption, MayGive, None, Reads, Some, length, map, size, ◌-◌, ◌≡◌, ◌≤◌}
use Rattle.tabled_table.proofs.iter_table.stream.Stream.write_next_rows.Given as goal

abbrev pub invariant-rows : goal.invariant-rows
invariant-rows g l = record {
  more : List (List g.row.C.Denot);
  reads : Reads g.I.Iterator.next_gives g.W.IntoIterator.into_iter_gives g.W.IntoIter.Iterator.next_gives l.initial.rows more l.rows;
  may : MayGive g.I.Iterator.can_next g.I.Iterator.next_gives g.I.Iterator.remaining g.W.IntoIterator.into_iter_gives
      g.W.IntoIter.Iterator.can_next g.W.IntoIter.Iterator.remaining l.rows;
  left : MatchOption l.initial.left (l.left ≡ None) (λ n. (l.left ≡ Some (n - length more)) × (length more ≤ n));
  same : l.self.lines.columns ≡ l.initial.self.lines.columns;
  puts : HasPutMore l.lines (map (map g.C.CellText.text) more) l.initial.self.lines.columns.layout.now l.initial.self.first
      (g.S.TextSink.sent l.initial.sink) l.initial.self.lines.begun l.self.first (g.S.TextSink.sent l.sink) l.self.lines.begun;
}

abbrev pub decreases-rows : goal.decreases-rows
decreases-rows g l = size (g.I.Iterator.remaining l.rows)
