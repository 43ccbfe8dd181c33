use Rattle.tabled_priority.proofs.Names.{CanChange, IsChanged, arith, at, cases_eq, first_level, get_or-set_other, get_or-set_same}
use Rattle.tabled_priority.proofs.Names.{last_level, length, length-set, share, slice_set, subst, sym, ⊎_elim, ◌<◌, ◌∙◌, ◌≡◌}
use Rattle.tabled_priority.proofs.Shares.{share-at}
use Rattle.tabled_priority.proofs.column_changes.change_to.Goals as goal

-- what the column was found to be and to take
pub changed-requires : goal.changed-requires
changed-requires c =
    let old = c.args.sizes.now in
    let p = c.loop-place.place in
    let own = c.loop-place.invariant.rest p (omega arith) in
    let e = share-at c.args.schedule c.loop-place.sizes old c.args.mins.now p c.visit-ramp.result.from c.visit-ramp.result.to
    c.args.span.level c.level_at.result c.args.span.first c.args.span.last c.amount-share.result
    own c.visit-ramp.ensures.from c.visit-ramp.ensures.to c.level_at.ensures c.amount-share.ensures in
    subst (λ x. CanChange c.args.schedule c.visit-ramp.result.value x) (sym e)
    (subst (λ v. CanChange c.args.schedule v (share (first_level c.args.schedule old c.args.mins.now)
    (last_level c.args.schedule old c.args.mins.now) c.args.span.level c.args.span.first c.args.span.last p))
    (sym (c.visit-ramp.ensures.value ∙ own)) (c.requires.fits p (omega arith)))

pub loop-place-preserved : goal.loop-place-preserved
loop-place-preserved c =
    let old = c.args.sizes.now in
    let mins = c.args.mins.now in
    let xs = c.loop-place.sizes in
    let p = c.loop-place.place in
    let y = c.changed.result in
    let shares = share (first_level c.args.schedule old mins) (last_level c.args.schedule old mins)
    c.args.span.level c.args.span.first c.args.span.last in
    let inside : p < length xs = omega arith in
    let own = c.loop-place.invariant.rest p (omega arith) in
    let e = share-at c.args.schedule xs old mins p c.visit-ramp.result.from c.visit-ramp.result.to
    c.args.span.level c.level_at.result c.args.span.first c.args.span.last c.amount-share.result
    own c.visit-ramp.ensures.from c.visit-ramp.ensures.to c.level_at.ensures c.amount-share.ensures in
    let value : c.visit-ramp.result.value ≡ at old p = c.visit-ramp.ensures.value ∙ own in
    let here = get_or-set_same xs p y 0 inside in
    let now : IsChanged c.args.schedule (at old p) (shares p) (at (slice_set xs p y) p) =
    subst (λ z. IsChanged c.args.schedule (at old p) (shares p) z) (sym here)
    (subst (λ x. IsChanged c.args.schedule (at old p) x y) e
    (subst (λ v. IsChanged c.args.schedule v c.amount-share.result y) value c.changed.ensures)) in
    record {
      same_length = length-set xs p y ∙ c.loop-place.invariant.same_length;
      done = λ i lt. ⊎_elim
          (λ q. subst (λ k. IsChanged c.args.schedule (at old k) (shares k) (at (slice_set xs p y) k)) (sym q) now)
          (λ ne. subst (λ z. IsChanged c.args.schedule (at old i) (shares i) z) (sym (get_or-set_other xs p i y 0 ne))
          (c.loop-place.invariant.done i (omega arith)))
          (cases_eq i p);
      rest = λ i le. get_or-set_other xs p i y 0 (λ q. omega arith) ∙ c.loop-place.invariant.rest i (omega arith);
      steps = omega arith;
    }

pub returns-clause-each : goal.returns-clause-each
returns-clause-each c = λ i inside. c.loop-place.invariant.done i (omega arith)
