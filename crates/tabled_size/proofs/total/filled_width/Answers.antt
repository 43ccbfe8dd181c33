use Rattle.tabled_size.proofs.Names.{arith, reached, slice_index}
use Rattle.tabled_size.proofs.EstimatedTotals.{sum-more}
use Rattle.tabled_size.proofs.Reaching.{reached_size, reached_there}
use Rattle.tabled_size.proofs.total.filled_width.Goals as goal

pub get_width-requires : goal.get_width-requires
get_width-requires g c =
    reached_there (g.D.Dimension.width_at c.args.sizes.now) c.args.columns c.columns.column (omega (arith, c.requires, c.columns-test.true))

pub columns-preserved : goal.columns-preserved
columns-preserved g c =
    let size_at = g.D.Dimension.width_at c.args.sizes.now in
    let size = reached_size size_at c.args.columns c.columns.column c.get_width.result
    (omega (arith, c.requires, c.columns-test.true)) c.get_width.ensures in
    let more = sum-more (slice_index (reached size_at c.args.columns)) c.columns.column in
    omega (arith, size, more, c.columns.invariant, c.in_ok-total.ensures.1)
