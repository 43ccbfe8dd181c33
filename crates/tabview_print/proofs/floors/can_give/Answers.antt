use Rattle.std.proofs.Common.{arith}
use Rattle.tabled_priority.specs.Permitted.{spare}
use Rattle.tabview_print.proofs.FloorLemmas.{sum_below-more}
use Rattle.tabview_print.proofs.floors.can_give.Goals as goal

pub loop-column-preserved : goal.loop-column-preserved
loop-column-preserved c =
    let e = sum_below-more (spare c.args.widths.now c.args.floors.now) c.loop-column.column in
    omega (arith, e, c.loop-column.invariant)
