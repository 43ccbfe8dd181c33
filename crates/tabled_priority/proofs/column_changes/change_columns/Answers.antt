use Rattle.tabled_priority.proofs.Names.{CanChange, IsChanged, IsScheduled, ap, arith, at, first_level, last_level, length, place_after}
use Rattle.tabled_priority.proofs.Names.{share, subst, sym, ◌∙◌}
use Rattle.tabled_priority.proofs.ByLevel.{fits_by, planned, scheduled_by, still_by}
use Rattle.tabled_priority.proofs.Visiting.{IsBounded-whole, IsBounded-passes}
use Rattle.tabled_priority.proofs.column_changes.change_columns.Goals as goal

pub returns-then-amount-eq0-clause-changed : goal.returns-then-amount-eq0-clause-changed
returns-then-amount-eq0-clause-changed c =
    let k = c.args.schedule in
    let old = c.args.values.now in
    let mins = c.args.mins.now in
    subst (λ n. IsScheduled k old mins c.args.by old n) (sym c.kept-kept.ensures)
    (still_by k old mins c.args.by (sym c.amount_by-amount.ensures.amount ∙ c.if-amount-eq0.true))

pub returns-then-amount-eq0-clause-visits : goal.returns-then-amount-eq0-clause-visits
returns-then-amount-eq0-clause-visits c =
    IsBounded-whole _ _ _ _ (length c.args.values.now) (omega arith) c.amount_by-amount.ensures.steps (omega arith)

pub change_to-requires-clause-fits : goal.change_to-requires-clause-fits
change_to-requires-clause-fits c =
    let k = c.args.schedule in
    let old = c.args.values.now in
    let mins = c.args.mins.now in
    let span = c.find_span-span in
    let plan = planned k old mins c.args.by _ _ _ _ _ c.requires c.amount_by-amount.ensures.values_fit c.amount_by-amount.ensures.mins_fit
    c.amount_by-amount.ensures.amount (omega arith) (omega arith) c.reach-reached.ensures.below c.reach-reached.ensures.reached
    span.ensures.span span.ensures.side in
    λ i inside. subst (λ l. CanChange k (at old i) (share (first_level k old mins) (last_level k old mins) l span.result.first span.result.last i))
    (sym span.ensures.level) (fits_by k old mins c.args.by _ _ _ _ plan i inside)

pub returns-clause-changed : goal.returns-clause-changed
returns-clause-changed c =
    let k = c.args.schedule in
    let old = c.args.values.now in
    let mins = c.args.mins.now in
    let span = c.find_span-span in
    let plan = planned k old mins c.args.by _ _ _ _ _ c.requires c.amount_by-amount.ensures.values_fit c.amount_by-amount.ensures.mins_fit
    c.amount_by-amount.ensures.amount (omega arith) (omega arith) c.reach-reached.ensures.below c.reach-reached.ensures.reached
    span.ensures.span span.ensures.side in
    let new = c.change_to.new.sizes in
    let len = c.change_to.ensures.same_length in
    subst (λ x. IsScheduled k old mins c.args.by new x)
    (sym (c.place_after-kept.ensures ∙ ap (λ x. place_after x span.result.last) len))
    (scheduled_by k old mins c.args.by _ _ _ span.result.last new plan len
    (λ i inside. subst (λ l. IsChanged k (at old i)
    (share (first_level k old mins) (last_level k old mins) l span.result.first span.result.last i) (at new i)) span.ensures.level
    (c.change_to.ensures.each i inside)))

pub returns-clause-visits : goal.returns-clause-visits
returns-clause-visits c =
    let a = c.reach-reached.ensures.fewest in
    let b = c.reach-reached.ensures.most in
    let d = c.find_span-span.ensures.fewest in
    let e = c.find_span-span.ensures.most in
    let f = c.change_to.ensures.steps in
    IsBounded-passes _ _ _ _ _ c.amount_by-amount.ensures.steps (omega arith) (omega arith)
