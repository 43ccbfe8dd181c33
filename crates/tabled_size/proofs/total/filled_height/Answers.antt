use Rattle.tabled_size.proofs.Names.{arith, part_height, reached, ◌≡◌}
use Rattle.tabled_size.proofs.EstimatedTotals.{sum-more}
use Rattle.tabled_size.proofs.Reaching.{reached_size, reached_there}
use Rattle.tabled_size.proofs.total.filled_height.Goals as goal

pub get_height-requires : goal.get_height-requires
get_height-requires g c =
    reached_there (g.D.Dimension.height_at c.args.sizes.now) c.args.rows c.rows.row (omega (arith, c.requires, c.rows-test.true))

pub rows-preserved : goal.rows-preserved
unfolding part_height
rows-preserved g c =
    let size_at = g.D.Dimension.height_at c.args.sizes.now in
    let f = part_height c.args.config.now c.args.rows (reached size_at c.args.rows) in
    let size = reached_size size_at c.args.rows c.rows.row c.get_height.result
    (omega (arith, c.requires, c.rows-test.true)) c.get_height.ensures in
    let part : c.in_ok-part.part ≡ f c.rows.row = omega (arith, size, c.rules_above-line.ensures, c.in_ok-part.ensures.1) in
    let more = sum-more f c.rows.row in
    omega (arith, part, more, c.rows.invariant, c.in_ok-total.ensures.1)
