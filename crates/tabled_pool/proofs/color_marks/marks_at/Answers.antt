use Rattle.tabled_pool.proofs.Names.{plan_of, refl}
use Rattle.tabled_pool.proofs.Neighbours.{marks_known}
use Rattle.tabled_pool.proofs.color_marks.marks_at.Goals as goal

pub returns : goal.returns
returns c =
    let l = c.args.line.now in
    marks_known (plan_of l.drawing.now) c.args.x l.y _ _ _ _ l.sized refl c.or_beside-first.ensures.earlier c.or_beside-first-2.ensures.earlier
    c.or_beside-first-3.ensures.earlier (rw c.saturating_sub.ensures at c.or_beside-first.ensures.skips) c.or_beside-first-2.ensures.skips
    c.or_beside-first-3.ensures.skips
