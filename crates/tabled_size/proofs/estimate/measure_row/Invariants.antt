use Rattle.tabled_size.proofs.Names.{max, needed_height, needed_width, slice_index, ℕ, ◌<◌, ◌≡◌, ◌≤◌}
use Rattle.tabled_size.proofs.Greatest.{greatest_below}
use Rattle.tabled_size.proofs.estimate.measure_row.Given as goal

abbrev pub invariant-columns : goal.invariant-columns
invariant-columns g l = record {
  raised : (c : ℕ) → c < l.column → slice_index l.widths c
      ≡ max (slice_index l.fn.widths c) (needed_width (g.R.ExactRecords.cells l.records) l.config l.row c);
  rest : (c : ℕ) → l.column ≤ c → slice_index l.widths c ≡ slice_index l.fn.widths c;
  most : l.most ≡ greatest_below (needed_height (g.R.ExactRecords.cells l.records) l.config l.row) l.column;
}
