use Rattle.tabled_base.proofs.Names.{Cell, between, map, max, ◌++◌, ◌≡◌, ◌≤◌}
use Rattle.tabled_base.proofs.segment.push_row.Given as goal

abbrev pub invariant-loop-column : goal.invariant-loop-column
invariant-loop-column l = record {
  items : l.all.items ≡ l.fn.all.items ++ map (Cell l.row) (between l.fn.columns.0 l.column);
  reached : l.column ≤ max l.fn.columns.0 l.fn.columns.1;
}
