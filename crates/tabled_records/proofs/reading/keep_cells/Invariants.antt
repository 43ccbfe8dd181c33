use Rattle.tabled_records.proofs.Names.{Walked, ◌++◌, ◌≡◌}
use Rattle.tabled_records.proofs.reading.keep_cells.Given as goal

abbrev pub invariant-cells : goal.invariant-cells
invariant-cells g l = record {
  kept : l.row.items ≡ l.initial.row.items ++ l.yielded;
  walked : Walked g.I.Iterator.can_next g.I.Iterator.next_gives g.I.Iterator.remaining l.initial.cells l.cells;
}
