use Rattle.tabled_pool.proofs.Names.{ap, arith, common_steps, false, is_border, is_line, option_map, plan_of, rules, drawn_part, sym, ◌+◌, ◌∙◌, ◌≡◌}
use Rattle.tabled_pool.proofs.Runs.{Owns, kind_before, line_some, lone_chars, owns}
use Rattle.tabled_pool.proofs.line_runs.Line.lone_run.Goals.{Start}
use Rattle.tabled_pool.proofs.line_runs.Line.lone_run.Goals as goal

own : (c : Start) → Owns (plan_of c.args.self.now.drawing.now) c.args.at.now.x c.args.self.now.y (drawn_part c.args.piece.now)
own c =
    let l = c.args.self.now in owns (plan_of l.drawing.now) c.args.at.now.x l.y (drawn_part c.args.piece.now) l.drawing.now.tiles c.requires.here

pub overflow_add-end : goal.overflow_add-end
overflow_add-end c = let o = own (goal.at.overflow_add-end c).Start in omega (arith, o.fits)

pub overflow_add-at : goal.overflow_add-at
overflow_add-at c = let o = own (goal.at.overflow_add-at c).Start in omega (arith, o.to, o.fits)

pub returns : goal.returns
returns c =
    let l = c.args.self.now in
    let t = plan_of l.drawing.now in
    let p = drawn_part c.args.piece.now in
    let x = c.args.at.now.x in
    let o = own (goal.at.returns c).Start in
    let end : p.place.x + p.place.width ≡ x + 1 = omega (arith, o.to, c.if-end-at.false) in
    let line : false ≡ is_line (option_map (λ q. drawn_part q.now) c.piece_at-next.result) =
    first_of (search (rules, line_some), grind (arith, common_steps, line_some)) in
    let none : is_border t.parts (x + 1) l.y ≡ false =
    ap (λ v. is_border t.parts v l.y) (sym end) ∙ ap is_line (sym c.piece_at-next.ensures) ∙ sym line in
    record {
      run = record {
        some = omega arith;
        within = omega (arith, o.to, o.fits);
        owned = λ v a b. o.more v a (omega (arith, end));
        alike = λ k v a b. lone_chars t p x l.y (sym c.requires.at.left ∙ c.if-at.false) none v a b ∙ sym c.own_char.ensures;
      };
      next = record {
        within = o.fits;
        piece = c.piece_at-next.ensures;
        left = sym (kind_before t x l.y (p.place.x + p.place.width) p o o.to (omega arith) ∙ c.requires.kind);
        up = λ v a b. c.requires.at.up v (omega (arith, a, o.to)) b;
        down = λ v a b. c.requires.at.down v (omega (arith, a, o.to)) b;
      };
      behind = end;
    }
