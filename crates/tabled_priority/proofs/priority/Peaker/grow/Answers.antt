use Rattle.tabled_priority.proofs.Names.{[], arith, rules, subst, ℕ, ◌+◌, ◌-◌}
use Rattle.tabled_priority.specs.Permitted.{IsAbove, raised}
use Rattle.tabled_priority.specs.Laws.Grown.{IsNoneSmaller-raised, IsRaised-raised}
use Rattle.tabled_priority.proofs.Visiting.{changed-le, changed-self}
use Rattle.tabled_priority.proofs.priority.Peaker.grow.Goals as goal

pub loop-added-preserved : goal.loop-added-preserved
loop-added-preserved g c =
    let v = c.loop-added.sizes in
    let p = c.in-Some.place in
    let above : IsAbove v [] p = c.in-Some.ensures.place in
    let l = IsRaised-raised v p 0 above.1 in
    record {
      onward = λ w u h. c.loop-added.invariant.onward w u
          (subst (λ (n : ℕ). g.Self.Peaker.grows c.loop-added.self v n w u) (omega arith)
          (g.met.Self.Peaker.growing_goes_on _ _ u v w (c.args.by - (c.loop-added.added + 1)) p above c.in-Some.ensures.peaks h));
      kept = IsNoneSmaller-raised c.args.sizes.now v p above.1 c.loop-added.invariant.kept;
      total = let s = l.total in omega (arith, c.loop-added.invariant.total);
      visits = let less = changed-le c.args.sizes.now (raised v p) in omega arith;
      reads = omega arith;
    }

pub loop-added-init : goal.loop-added-init
loop-added-init g c = record {
  onward = λ w u h. subst (λ (n : ℕ). g.Self.Peaker.grows c.args.self.now c.args.sizes.now n w u) (omega arith) h;
  kept = search rules;
  total = omega arith;
  visits = let none = changed-self c.args.sizes.now in omega arith;
  reads = omega arith;
}
