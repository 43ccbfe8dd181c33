use Rattle.std.proofs.Common.{arith, of_z, rules, subst, sym, to_z, w64, ℤ, ◌≡◌}
use Rattle.std.proofs.lemmas.Int.{ints, to_z-of_z}
use Rattle.tabled_c.specs.Printed.{IsTextTable, IsTextTableCause}
use Rattle.tabled_c.specs.ReturnsText.{ReturnsText}
use Rattle.tabled_c.proofs.Returning.{returns_made}
use Rattle.tabled_c.proofs.exports.fanlightnard_core_text.Goals as goal

pub returns : goal.returns
returns c =
    let asked = IsTextTable c.args.text.now c.args.layout.now in
    let cause = IsTextTableCause c.args.text.now c.args.layout.now in
    let same : to_z w64 (of_z w64 c.put_or_fail.result) ≡ c.put_or_fail.result = first_of (search rules, grind (arith, ints, to_z-of_z)) in
    subst (λ (answer : ℤ). ReturnsText asked cause c.args.buffer.now answer c.put_or_fail.new.buffer) (sym same)
    (returns_made asked cause c.text_table.result c.args.buffer.now c.put_or_fail.result c.put_or_fail.new.buffer c.text_table.ensures.ok c.text_table.ensures.err c.put_or_fail.ensures)
