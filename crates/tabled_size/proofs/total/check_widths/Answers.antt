use Rattle.tabled_size.proofs.Names.{arith, refl}
use Rattle.tabled_size.proofs.Reaching.{missing_at, reached_alike}
use Rattle.tabled_size.proofs.total.check_widths.Goals as goal

pub returns-then-not-has_width-clause-err : goal.returns-then-not-has_width-clause-err
returns-then-not-has_width-clause-err g c =
    (refl, missing_at _ _ c.columns.column (omega (arith, c.min-column-end.ensures, c.columns-test.true)) cc)

pub returns-clause-ok : goal.returns-clause-ok
returns-clause-ok g c =
    let last = c.unwrap_or-alike.ensures in
    reached_alike _ _ c.alike_from.result c.min-column-end.result c.alike_from.ensures
    (omega (arith, last, c.min-column-end.ensures, c.saturating_add.ensures, c.ranges.columns.fits))
    (λ i lt. c.columns.invariant i (omega (arith, c.columns-test.false)))
