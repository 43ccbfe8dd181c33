use Rattle.tabled_size.proofs.Names.{arith, refl}
use Rattle.tabled_size.proofs.Reaching.{missing_at, reached_so}
use Rattle.tabled_size.proofs.total.check_heights.Goals as goal

pub returns-then-not-has_height-clause-err : goal.returns-then-not-has_height-clause-err
returns-then-not-has_height-clause-err g c = (refl, missing_at _ _ c.rows.row (omega arith) cc)

pub returns-clause-ok : goal.returns-clause-ok
returns-clause-ok g c = reached_so _ _ _ (omega arith) (λ i lt. c.rows.invariant i (omega arith))
