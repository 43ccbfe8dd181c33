use Rattle.tabled_pool.proofs.Names.{arith, plan_of, drawn_part, sym, ◌+◌}
use Rattle.tabled_pool.proofs.Runs.{Owns, kind_before, owns}
use Rattle.tabled_pool.proofs.line_runs.Line.next_run.Goals.{Start}
use Rattle.tabled_pool.proofs.line_runs.Line.next_run.Goals as goal

own : (c : Start) → Owns (plan_of c.args.self.now.drawing.now) c.args.at.now.x c.args.self.now.y (drawn_part c.args.piece.now)
own c =
    let l = c.args.self.now in owns (plan_of l.drawing.now) c.args.at.now.x l.y (drawn_part c.args.piece.now) l.drawing.now.tiles c.requires.here

pub overflow_add-end : goal.overflow_add-end
overflow_add-end c = let o = own (goal.at.overflow_add-end c).Start in omega (arith, o.to, o.fits)

pub overflow_sub-result : goal.overflow_sub-result
overflow_sub-result c = let o = own (goal.at.overflow_sub-result c).Start in omega (arith, o.to)

pub returns : goal.returns
returns c =
    let o = own (goal.at.returns c).Start in
    let before = kind_before _ _ _ (c.args.piece.now.place.x + c.args.piece.now.place.width) _ o o.to (omega arith) in
    record {
      run = record {
        some = omega (arith, o.to);
        within = omega (arith, o.to, o.fits);
        owned = λ v a b. o.more v a (omega (arith, o.to));
        alike = λ k v a b. cc (k, sym c.is_line_kind.ensures, c.if-is_line_kind.false);
      };
      next = record {
        within = omega (arith, o.fits);
        piece = c.piece_at-at.ensures;
        left = cc (before, c.is_line_kind.ensures, c.if-is_line_kind.false);
        up = λ v a b. c.requires.at.up v (omega (arith, a, o.to)) b;
        down = λ v a b. c.requires.at.down v (omega (arith, a, o.to)) b;
      };
      behind = omega (arith, o.to);
    }
