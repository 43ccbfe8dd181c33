use Rattle.tabled_pool.proofs.Names.{arith, plan_of, drawn_part, sym, ◌∙◌}
use Rattle.tabled_pool.proofs.Runs.{Owns, along, nothing, owns}
use Rattle.tabled_pool.proofs.line_runs.stretch_at.Goals.{In-Some}
use Rattle.tabled_pool.proofs.line_runs.stretch_at.Goals as goal

own : (c : In-Some) → Owns (plan_of c.args.drawing.now) c.args.x c.args.y (drawn_part c.in-Some.piece.now)
own c = let d = c.args.drawing.now in owns (plan_of d) c.args.x c.args.y (drawn_part c.in-Some.piece.now) d.tiles (sym c.in-Some.ensures)

pub overflow_add-result : goal.overflow_add-result
overflow_add-result c = let o = own (goal.at.overflow_add-result c).In-Some in omega (arith, o.fits)

pub returns-in-Some-clause-some : goal.returns-in-Some-clause-some
returns-in-Some-clause-some c = let o = own (goal.at.returns-in-Some-clause-some c).In-Some in omega (arith, o.to)

pub returns-in-Some-clause-same : goal.returns-in-Some-clause-same
returns-in-Some-clause-same c =
    let o = own (goal.at.returns-in-Some-clause-same c).In-Some in
    λ v a b. along (plan_of c.args.drawing.now) c.args.x c.args.y (drawn_part c.in-Some.piece.now) o v a b ∙ sym c.is_line_kind.ensures

pub returns-in-None-clause-same : goal.returns-in-None-clause-same
returns-in-None-clause-same c =
    let d = c.args.drawing.now in
    λ v a b. nothing (plan_of d) c.args.x c.args.y d.tiles c.requires.inside (sym c.in-None.ensures) v
