use Rattle.tabled_set.proofs.Names.{SpannedConfig, ap, arith, false, is_empty, rules, ◌∙◌, ◌≡◌}
use Rattle.tabled_set.proofs.PromisedSizes.{limits, lowered}
use Rattle.tabled_set.proofs.heights.TableHeightLimitTableOptionColoredConfigCompleteDimension.change.Goals as goal

pub returns-clause-promised : goal.returns-clause-promised
returns-clause-promised g c =
    λ left cleared.
    let s = c.args.self in
    let cells = g.R.ExactRecords.cells c.args.records.now in
    let some : is_empty cells ≡ false = search rules in
    let measured = c.in_ok-n.ensures.ok ∙ ap (λ (k : SpannedConfig). g.W.Measurement.measures s.size cells k) c.as_ref-config.ensures in
    let is =
    lowered _ _ _ _ _ _ _ c.args.dims.now c.set_heights.new.self _ _ c.as_ref-config.ensures some measured c.in_ok-heights.ensures.total
    (c.deref.ensures.value ∙ c.in_ok-heights.ensures.heights)
    c.set_heights.ensures.heights c.set_heights.ensures.widths _ _ _ (omega (arith, c.if-total-n.false))
    c.in_ok-lower.ensures.shrunk c.deref-2.ensures.value c.in_ok-change_cells.ensures.ok in
    limits _ _ _ _ _ _ _ _ left is cleared
