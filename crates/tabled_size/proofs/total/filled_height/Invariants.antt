use Rattle.tabled_size.proofs.Names.{part_height, reached, sum_below, ◌≡◌}
use Rattle.tabled_size.proofs.total.filled_height.Given as goal

abbrev pub invariant-rows : goal.invariant-rows
invariant-rows g l = l.total ≡ sum_below (part_height l.config l.rows (reached (g.D.Dimension.height_at l.sizes) l.rows)) l.row
