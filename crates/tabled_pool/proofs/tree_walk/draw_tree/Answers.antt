use Rattle.tabled_pool.proofs.Names.{InheritedSheet, [], ap, box_of, drawer, inheriting_box, plan_of, ℕ, ◌∙◌}
use Rattle.tabled_pool.specs.Inherited.{PassedOn, beside, whole_flags}
use Rattle.tabled_pool.proofs.Besides.{beside_nothing}
unfoldable use Rattle.tabled_pool.specs.Inherited.{inherited_block}
use Rattle.tabled_pool.proofs.tree_walk.draw_tree.Goals as goal

inherits : ℕ → ℕ → InheritedSheet
inherits w h = record { place = record { x = 0; y = 0; width = w; height = h }; flags = whole_flags; above = []; before = [] }

pub returns : goal.returns
unfolding inherited_block inherits
returns c =
    let draw = (drawer (plan_of c.args.drawing.now) c.args.drawing.now.spacing c.args.value.now).draw in
    let drawn = draw (inheriting_box c.new-whole.result) in
    ap (λ (u : PassedOn). u.block) c.in_ok-draw_value.ensures.passed ∙ ap (λ b. beside b drawn.block) c.new-whole.ensures.block
    ∙ beside_nothing drawn.block ∙ ap (λ (h : InheritedSheet). (draw h).block)
    (c.new-whole.ensures.inherited ∙ ap (λ w. inherits w c.in-Some.own.height) c.in-Some.ensures.size.0
    ∙ ap (inherits (box_of c.args.drawing.now.spacing c.args.value.now).width) c.in-Some.ensures.size.1)
