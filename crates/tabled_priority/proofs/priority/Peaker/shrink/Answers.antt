use Rattle.tabled_priority.proofs.Names.{arith, at, rules, subst, ℕ, ◌+◌, ◌-◌}
use Rattle.tabled_priority.specs.Permitted.{lowered}
use Rattle.tabled_priority.specs.Laws.Permitted.{IsPermitted-lowered, sum-lowered}
use Rattle.tabled_priority.proofs.Visiting.{changed-le, changed-self}
use Rattle.tabled_priority.proofs.priority.Peaker.shrink.Goals as goal

pub loop-taken-preserved : goal.loop-taken-preserved
loop-taken-preserved g c =
    let v = c.loop-taken.sizes in
    let p = c.in-Some.place in
    let above = c.in-Some.ensures.place in
    record {
      onward = λ w u h. c.loop-taken.invariant.onward w u
          (subst (λ (n : ℕ). g.Self.Peaker.shrinks c.loop-taken.self v c.args.mins.now n w u) (omega arith)
          (g.met.Self.Peaker.goes_on _ _ u v c.args.mins.now w (c.args.by - (c.loop-taken.taken + 1)) p (search rules)
          above c.in-Some.ensures.peaks h));
      permitted = IsPermitted-lowered c.args.sizes.now c.args.mins.now v p above.1 c.loop-taken.invariant.permitted;
      total = omega (arith, sum-lowered v p (at c.args.mins.now p) above.1, c.loop-taken.invariant.total);
      visits = let less = changed-le c.args.sizes.now (lowered v p) in omega arith;
      reads = omega arith;
    }

pub loop-taken-init : goal.loop-taken-init
loop-taken-init g c = record {
  onward = λ w u h. subst (λ (n : ℕ). g.Self.Peaker.shrinks c.args.self.now c.args.sizes.now c.args.mins.now n w u) (omega arith) h;
  permitted = search rules;
  total = omega arith;
  visits = let none = changed-self c.args.sizes.now in omega arith;
  reads = omega arith;
}
