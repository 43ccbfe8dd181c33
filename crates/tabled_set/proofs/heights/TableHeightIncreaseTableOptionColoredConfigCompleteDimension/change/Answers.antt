use Rattle.tabled_set.proofs.Names.{List, SpannedConfig, ap, arith, estimated, estimated_heights, false, is_empty, rules, subst, sum, sym}
use Rattle.tabled_set.proofs.Names.{total_height, ℕ, ◌+◌, ◌-◌, ◌<◌, ◌∙◌, ◌≡◌}
use Rattle.tabled_set.proofs.PromisedSizes.{heights-fit, heightened, heightens}
use Rattle.tabled_set.proofs.heights.TableHeightIncreaseTableOptionColoredConfigCompleteDimension.change.Goals as goal

pub grown-requires : goal.grown-requires
grown-requires g c =
    let cells = g.R.ExactRecords.cells c.args.records.now in
    let config = c.as_ref-config.result.now in
    let n = c.in_ok-n.n in
    let total = c.in_ok-heights.total in
    let some : is_empty cells ≡ false = search rules in
    let same : total ≡ total_height (estimated cells config) = c.in_ok-heights.ensures.total in
    subst (λ (heights : List ℕ). sum heights + (n - total) < 18446744073709551616) (sym (c.deref.ensures.value ∙ c.in_ok-heights.ensures.heights))
    (subst (λ (k : ℕ). sum (estimated_heights cells config) + (n - k) < 18446744073709551616) (sym same)
    (heights-fit cells config n some (omega (arith, same, c.if-n-total.false)) (omega arith)))

pub returns-clause-promised : goal.returns-clause-promised
returns-clause-promised g c =
    λ left cleared.
    let s = c.args.self in
    let cells = g.R.ExactRecords.cells c.args.records.now in
    let some : is_empty cells ≡ false = search rules in
    let measured = c.in_ok-n.ensures.ok ∙ ap (λ (k : SpannedConfig). g.W.Measurement.measures s.size cells k) c.as_ref-config.ensures in
    let is =
    heightened _ _ _ _ _ _ _ c.args.dims.now c.set_heights.new.self _ _ c.as_ref-config.ensures some measured
    c.in_ok-heights.ensures.total (c.deref.ensures.value ∙ c.in_ok-heights.ensures.heights)
    c.set_heights.ensures.heights c.set_heights.ensures.widths _ (omega (arith, c.if-n-total.false)) c.in_ok-higher.ensures.grown in
    heightens _ _ _ _ _ _ _ left is cleared
