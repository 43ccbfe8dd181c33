use Rattle.tabled_base.proofs.Names.{drop, nat_eq, pointwise, ◌≡◌}
use Rattle.tabled_base.proofs.vec_records.VecRecordsTextStringPartialEq.eq.Given as goal

abbrev pub invariant-loop-index : goal.invariant-loop-index
invariant-loop-index l =
    pointwise (pointwise (pointwise nat_eq)) (drop l.index l.self) (drop l.index l.other)
    ≡ pointwise (pointwise (pointwise nat_eq)) l.self l.other
