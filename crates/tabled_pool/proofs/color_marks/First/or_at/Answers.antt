use Rattle.tabled_pool.proofs.Names.{arith, map, plan_of, refl, drawn_part, whole}
use Rattle.tabled_pool.proofs.Listed.{piece_owns}
use Rattle.tabled_pool.proofs.Neighbours.{no_marks_here, one_number, piece_marks}
use Rattle.tabled_pool.proofs.color_marks.First.or_at.Goals as goal

pub returns-in_default-clause-skips : goal.returns-in_default-clause-skips
returns-in_default-clause-skips c = λ k p l h i.
    let d = c.args.line.now.drawing.now in
    absurd (let o = piece_owns (map drawn_part d.pieces.now) (whole (plan_of d)) k c.args.x c.args.y p d.tiles h i in cc (o, c.in_default.ensures))

pub returns-then-number-self-clause-skips : goal.returns-then-number-self-clause-skips
returns-then-number-self-clause-skips c = λ k p l h i.
    let d = c.args.line.now.drawing.now in
    let o = one_number d.pieces.now (whole (plan_of d)) c.args.x c.args.y k c.in-Some.number p d.tiles c.in-Some.ensures h i in
    absurd (omega (arith, o.0, c.if-number-self.true))

pub returns-in-Some-around_piece-clause-earlier : goal.returns-in-Some-around_piece-clause-earlier
returns-in-Some-around_piece-clause-earlier c =
    let d = c.args.line.now.drawing.now in
    let found = c.in-Some.ensures in
    record {
      first = record {
        inside = c.requires.inside;
        marks = piece_marks (plan_of d) c.args.self.x c.args.line.now.y d.pieces.now c.in-Some.number _ _ found.0 c.in-Some-around_piece.ensures;
      };
      column = refl;
      fewer = omega (arith, c.if-number-self.false);
    }

pub returns-in-Some-around_piece-clause-skips : goal.returns-in-Some-around_piece-clause-skips
returns-in-Some-around_piece-clause-skips c = λ k p l h i.
    let d = c.args.line.now.drawing.now in
    let o = one_number d.pieces.now (whole (plan_of d)) c.args.x c.args.y k c.in-Some.number p d.tiles c.in-Some.ensures h i in
    absurd (omega (arith, o.0))

pub returns-in-None-clause-skips : goal.returns-in-None-clause-skips
returns-in-None-clause-skips c = λ k p l h i.
    let d = c.args.line.now.drawing.now in
    let found = c.in-Some.ensures in
    let o = one_number d.pieces.now (whole (plan_of d)) c.args.x c.args.y k c.in-Some.number p d.tiles found h i in
    no_marks_here (plan_of d) c.args.self.x c.args.line.now.y d.pieces.now c.in-Some.number _ p found.0 c.in-None.ensures o.1
