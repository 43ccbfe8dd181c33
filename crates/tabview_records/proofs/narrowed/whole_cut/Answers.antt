use Rattle.std.proofs.Common.{arith, subst, ⊎_elim, ◌-◌, ◌≡◌}
use Rattle.std.proofs.lemmas.Bool.{cases_lt}
use Rattle.tabled_text.specs.Cut.{NeedsFill}
use Rattle.tabview_records.proofs.narrowed.whole_cut.Goals as goal

pub loop-fewer-preserved : goal.loop-fewer-preserved
loop-fewer-preserved c = λ more l m.
    ⊎_elim (λ later. c.loop-fewer.invariant more later m)
    (λ same. let e : c.args.n - c.loop-fewer.fewer ≡ more = omega arith in subst (λ k. NeedsFill k c.args.line.now) e c.in_default.ensures.none)
    (cases_lt (c.args.n - c.loop-fewer.fewer) more)
