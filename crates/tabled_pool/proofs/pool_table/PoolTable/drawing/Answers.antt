use Rattle.tabled_pool.proofs.Names.{ap, line_marks_of, map, marks_of, plan, drawn_part, ◌≡◌}
use Rattle.tabled_pool.proofs.PoolLemmas.{plan_is, plan_tiles}
use Rattle.tabled_pool.proofs.pool_table.PoolTable.drawing.Goals as goal

pub returns-clause-plan : goal.returns-clause-plan
returns-clause-plan c =
    let places : map drawn_part c.as_slice.result.now ≡ (plan c.args.self.now).parts = rw c.as_slice.ensures.value c.requires.places in
    plan_is c.args.self.now _ _ _ _ _ _ _ places c.requires.width c.requires.height
    c.get_borders.ensures c.style_of.ensures (ap marks_of c.get_padding_color-padding.ensures) (ap line_marks_of c.get_borders_color-borders.ensures)

pub invariant_of-result-clause-tiles : goal.invariant_of-result-clause-tiles
invariant_of-result-clause-tiles c =
    let places : map drawn_part c.as_slice.result.now ≡ (plan c.args.self.now).parts = rw c.as_slice.ensures.value c.requires.places in
    plan_tiles c.args.self.now _ _ _ places c.requires.width c.requires.height
