use Rattle.tabled_priority.proofs.Names.{ap, arith, at, if◌then◌else◌, length, min, nat_le, nat_lt, place_at, slice_set, spare_within}
use Rattle.tabled_priority.proofs.Names.{subst, sym, ◌&&◌, ◌+◌, ◌-◌, ◌<◌, ◌∙◌, ◌≡◌}
use Rattle.tabled_priority.proofs.Passes.{Midway, midway-end, midway-start, midway-take}
use Rattle.tabled_priority.proofs.Turns.{ahead-place}
use Rattle.tabled_priority.proofs.in_order.Pass.take.Goals as goal

pub loop-turn-init : goal.loop-turn-init
loop-turn-init c = record {
  midway = midway-start _ _ _ _ _;
  steps = omega arith;
}

pub loop-turn-preserved : goal.loop-turn-preserved
loop-turn-preserved c =
    let right = c.args.self.right in
    let sizes = c.args.self.sizes in
    let old = c.args.values.now in
    let mins = c.args.mins.now in
    let xs = c.loop-turn.values in
    let i = place_at right (length old) c.loop-turn.turn in
    let d = c.min-taken.result in
    let m = c.loop-turn.invariant.midway in
    let turn_in : c.loop-turn.turn < length old = omega arith in
    let place : c.place_at-place.result ≡ i = c.place_at-place.ensures in
    let value = c.visit-column.ensures.value in
    let gives : c.spare.result ≡ spare_within sizes old mins i = c.spare.ensures
    ∙ ap (λ v. if (nat_lt sizes.base v && nat_le v sizes.ceiling) then v - c.visit-column.result.least else 0)
    (value ∙ ap (at xs) place ∙ m.ahead i (ahead-place right (length old) c.loop-turn.turn turn_in))
    ∙ ap (λ v. if (nat_lt sizes.base (at old i) && nat_le (at old i) sizes.ceiling) then at old i - v else 0)
    (c.visit-column.ensures.least ∙ ap (at mins) place) in
    record {
      midway = subst (λ ys. Midway right sizes old mins c.args.by (c.loop-turn.turn + 1) ys (c.loop-turn.left - d))
          (ap (λ k. slice_set xs k (at xs k - d)) (sym place) ∙ ap (λ v. slice_set xs c.place_at-place.result (v - d)) (sym value))
          (midway-take right sizes old mins c.args.by c.loop-turn.turn xs c.loop-turn.left d m turn_in
          (c.min-taken.ensures ∙ ap (λ k. min k c.loop-turn.left) gives));
      steps = omega arith;
    }

pub returns-clause-taken : goal.returns-clause-taken
returns-clause-taken c = midway-end _ _ _ _ _ _ _ _ c.loop-turn.invariant.midway (omega arith)
