use Rattle.tabled_extended.proofs.Names.{ap, arith, decimal, length, sym, ◌+◌, ◌∙◌}
use Rattle.std.proofs.lemmas.Fmt.{decimal_digit}
use Rattle.tabled_extended.proofs.Digits.{digits_of_log}
use Rattle.tabled_extended.proofs.truncating.least_columns.Goals as goal

pub returns-in-Some : goal.returns-in-Some
returns-in-Some c =
    let e = c.in-Some.ensures in
    omega (arith, digits_of_log c.args.count c.in-Some.log c.ranges.count.fits e.power_le e.next_power_gt)

pub returns-in-None : goal.returns-in-None
returns-in-None c = sym (ap (λ n. 13 + length (decimal n)) c.in-None.ensures.none ∙ ap (λ ds. 13 + length ds) (decimal_digit 0 (omega arith)))
