use Rattle.tabled_pool.proofs.Names.{plan_of, drawn_part}
use Rattle.tabled_pool.proofs.TallCursors.{in_place}
use Rattle.tabled_pool.proofs.Owners.{owner-inside, within-inside}
use Rattle.tabled_pool.proofs.line_runs.Line.text.Goals as goal

pub returns-clause-text : goal.returns-clause-text
returns-clause-text c = (c.in-Some.ensures (drawn_part c.args.piece.now) c.requires).text

pub returns-clause-cursor : goal.returns-clause-cursor
returns-clause-cursor c =
    let line = c.args.self.now in
    let p = drawn_part c.args.piece.now in
    let here = within-inside p.place c.args.x line.y (owner-inside (plan_of line.drawing.now).parts c.args.x line.y p c.requires) in
    in_place line.drawing.now.style p line.y c.in-Some.tall.now here.top (c.in-Some.ensures p c.requires)
