use Rattle.std.proofs.Common.{arith, subst, sym}
use Rattle.tabled_base.specs.Printable.{IsPrintableAscii}
use Rattle.tabled_value.proofs.Decimals.{printable-decimal}
use Rattle.tabled_value.proofs.rows.push_unsigned.Goals as goal

pub push_printable-requires : goal.push_printable-requires
push_printable-requires c =
    subst IsPrintableAscii (sym c.format.ensures.text) (printable-decimal c.args.number (omega (arith, c.ranges.number)))
