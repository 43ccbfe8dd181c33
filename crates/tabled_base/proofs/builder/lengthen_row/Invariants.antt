use Rattle.tabled_base.proofs.Names.{length, lengthened, max, vec_capacity, ◌≡◌, ◌≤◌}
use Rattle.tabled_base.proofs.builder.lengthen_row.Given as goal

abbrev pub invariant-loop-column : goal.invariant-loop-column
invariant-loop-column l = record {
  items : l.row.items ≡ lengthened l._column l.fn.row.items;
  reached : l._column ≤ max l.columns (length l.fn.row.items);
  capacity : vec_capacity l.row ≡ vec_capacity l.fn.row;
}
