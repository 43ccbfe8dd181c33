use Rattle.tabled_records.proofs.Names.{ap, arith, longest_range}
use Rattle.tabled_records.proofs.Rows.{longest-next}
use Rattle.tabled_records.proofs.row_ranges.RowRanges.push.Goals as goal

pub invariant_of-self-2 : goal.invariant_of-self-2
invariant_of-self-2 c =
    omega (arith, c.max-self-inside.ensures, c.self.invariant, ap longest_range c.in_ok-push.ensures.ok, longest-next c.self.inside.ranges (c.args.start, c.args.count))
