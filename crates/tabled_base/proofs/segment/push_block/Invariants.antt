use Rattle.tabled_base.proofs.Names.{between, block, max, ◌++◌, ◌≡◌, ◌≤◌}
use Rattle.tabled_base.proofs.segment.push_block.Given as goal

abbrev pub invariant-loop-row : goal.invariant-loop-row
invariant-loop-row l = record {
  items : l.all.items ≡ l.fn.all.items ++ block (between l.fn.rows.0 l.row) (between l.fn.columns.0 l.fn.columns.1);
  reached : l.row ≤ max l.fn.rows.0 l.fn.rows.1;
}
