use Rattle.tabled_size.proofs.Names.{reached, slice_index, sum_below, ◌≡◌}
use Rattle.tabled_size.proofs.total.filled_width.Given as goal

abbrev pub invariant-columns : goal.invariant-columns
invariant-columns g l = l.total ≡ sum_below (slice_index (reached (g.D.Dimension.width_at l.sizes) l.columns)) l.column
