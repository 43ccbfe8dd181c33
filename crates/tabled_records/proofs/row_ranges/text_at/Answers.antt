use Rattle.tabled_records.proofs.Names.{IsJoined, ap, arith, begin, slice_range, subst, sym, text_columns, ◌∙◌}
use Rattle.tabled_records.proofs.Joining.{joined-at, text-at}
use Rattle.tabled_records.proofs.row_ranges.text_at.Goals.{After-bounds_of-first}
use Rattle.tabled_records.proofs.row_ranges.text_at.Goals as goal

pub bounds_of-first-requires-clause-fits : goal.bounds_of-first-requires-clause-fits
bounds_of-first-requires-clause-fits c =
    let it = joined-at c.args.gap c.args.whole.now 0 c.args.ends.now c.args.place (0, 0) c.requires.joined c.requires.inside in
    omega (arith, it.ordered, it.ends.0)

-- the text there
own : (c : After-bounds_of-first) → IsJoined c.args.whole.now c.bounds_of-first.result.0 c.bounds_of-first.result.1
own c =
    let whole = c.args.whole.now in
    let ends = c.args.ends.now in
    let end = c.bounds_of-first.result.1 in
    subst (λ start. IsJoined whole start end) (sym c.bounds_of-first.ensures.begin)
    (subst (IsJoined whole (begin c.args.gap 0 ends c.args.place)) (sym c.bounds_of-first.ensures.end)
    (joined-at c.args.gap whole 0 ends c.args.place end c.requires.joined c.requires.inside))

pub range-requires-clause-start_le_end : goal.range-requires-clause-start_le_end
range-requires-clause-start_le_end c = (own (goal.at.range-requires-clause-start_le_end c).After-bounds_of-first).ordered

pub range-requires-clause-start_boundary : goal.range-requires-clause-start_boundary
range-requires-clause-start_boundary c = λ _. (own (goal.at.range-requires-clause-start_boundary c).After-bounds_of-first).begins

pub range-requires-clause-end_boundary : goal.range-requires-clause-end_boundary
range-requires-clause-end_boundary c = (own (goal.at.range-requires-clause-end_boundary c).After-bounds_of-first).ends

pub returns-clause-text : goal.returns-clause-text
returns-clause-text c =
    let gap = c.args.gap in
    let whole = c.args.whole.now in
    let ends = c.args.ends.now in
    let place = c.args.place in
    let bounds = c.bounds_of-first.result in
    c.range.ensures.value ∙ ap (λ start. slice_range whole start bounds.1.0) c.bounds_of-first.ensures.begin
    ∙ ap (λ end. slice_range whole (begin gap 0 ends place) end.0) c.bounds_of-first.ensures.end
    ∙ sym (text-at gap whole 0 ends place bounds.1 c.requires.inside)

pub returns-clause-columns : goal.returns-clause-columns
returns-clause-columns c =
    (own (goal.at.returns-clause-columns c).After-bounds_of-first).counted ∙ ap text_columns (sym c.range.ensures.value)
