use Rattle.tabled_size.proofs.Names.{estimated_widths, slice_index, sum_below, ◌≡◌}
use Rattle.tabled_size.proofs.total.estimated_total_width.Given as goal

abbrev pub invariant-columns : goal.invariant-columns
invariant-columns g l = l.total ≡ sum_below (slice_index (estimated_widths (g.R.ExactRecords.cells l.records) l.config)) l.column
