use Rattle.std.proofs.Common.{ap, subst, sym, w64, ◌∙◌}
use Rattle.std.proofs.lemmas.Int.{to_z-of_z}
use Rattle.std.specs.Fmt.{signed_decimal}
use Rattle.tabled_base.specs.Printable.{IsPrintableAscii}
use Rattle.tabled_value.proofs.Decimals.{printable-signed}
use Rattle.tabled_value.proofs.rows.push_signed.Goals as goal

pub push_printable-requires : goal.push_printable-requires
push_printable-requires c =
    let same = ap signed_decimal (to_z-of_z w64 c.args.number c.ranges.number) in
    subst IsPrintableAscii (sym (c.format.ensures.text ∙ same)) (printable-signed c.args.number c.ranges.number)
