use Rattle.std.proofs.Common.{◌-◌, ◌≡◌}
use Rattle.tabled_priority.specs.Permitted.{spare}
use Rattle.tabled_priority.specs.Sums.{sum_below}
use Rattle.tabview_print.proofs.floors.can_give.Given as goal

abbrev pub invariant-loop-column : goal.invariant-loop-column
invariant-loop-column l = l.left ≡ l.count - sum_below (spare l.widths l.floors) l.column
