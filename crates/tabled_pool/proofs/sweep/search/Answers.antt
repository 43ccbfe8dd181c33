use Rattle.tabled_pool.proofs.Names.{arith, inl, inr, map, plan_of, drawn_part, whole}
use Rattle.tabled_pool.proofs.Listed.{outside}
use Rattle.tabled_pool.proofs.sweep.search.Goals as goal

pub returns-then-x-drawing : goal.returns-then-x-drawing
returns-then-x-drawing c =
    let d = c.args.drawing.now in
    outside (map drawn_part d.pieces.now) (whole (plan_of d)) c.args.x c.args.y d.tiles (inl (omega arith))

pub returns-then-y-drawing : goal.returns-then-y-drawing
returns-then-y-drawing c =
    let d = c.args.drawing.now in
    outside (map drawn_part d.pieces.now) (whole (plan_of d)) c.args.x c.args.y d.tiles (inr (omega arith))
