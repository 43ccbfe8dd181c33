use Rattle.tabled_pool.proofs.Names.{ap, arith, common_steps, is_line, nat_tests}
use Rattle.tabled_pool.proofs.Names.{option_map, owner, plan_of, rules, drawn_part, subst, sym, ◌∙◌, ◌≡◌}
use Rattle.tabled_pool.proofs.Runs.{Arms, Ends, Owns, kind_before, line_some, owns, run_chars}
use Rattle.tabled_pool.proofs.line_runs.Line.border_run.Goals.{Start, then-end-own, else-end-own, then-last-end, else-last-end, then-last-end-2, else-last-end-2}
use Rattle.tabled_pool.proofs.line_runs.Line.border_run.Goals as goal

own : (c : Start) → Owns (plan_of c.args.self.now.drawing.now) c.args.at.now.x c.args.self.now.y (drawn_part c.args.piece.now)
own c =
    let l = c.args.self.now in owns (plan_of l.drawing.now) c.args.at.now.x l.y (drawn_part c.args.piece.now) l.drawing.now.tiles c.requires.here

pub above-up-requires-clause-inside : goal.above-up-requires-clause-inside
above-up-requires-clause-inside c = let o = own (goal.at.above-up-requires-clause-inside c).Start in omega (arith, o.to, o.fits)

pub stretch_at-down-requires-clause-inside : goal.stretch_at-down-requires-clause-inside
stretch_at-down-requires-clause-inside c = let o = own (goal.at.stretch_at-down-requires-clause-inside c).Start in omega (arith, o.to, o.fits)

pub overflow_add-own : goal.overflow_add-own
overflow_add-own c = let o = own (goal.at.overflow_add-own c).Start in omega (arith, o.to, o.fits)

pub run_end-last-requires : goal.run_end-last-requires
run_end-last-requires c =
    let o = own (goal.at.run_end-last-requires c).Start in omega (arith, o.to, c.above-up.ensures.some, c.stretch_at-down.ensures.some)

pub returns : goal.returns
returns c =
    let l = c.args.self.now in
    let t = plan_of l.drawing.now in
    let p = drawn_part c.args.piece.now in
    let o = own (goal.at.returns c).Start in
    let ends = c.run_end-last.ensures in
    let behind : option_map (λ q. drawn_part q.now) c.if-end-own.behind ≡ owner t.parts c.min-end.result l.y = elim c.if-end-own.branch [
      | then-end-own w ↦ rw w.behind-is
          (sym (o.more c.min-end.result (omega (arith, ends.some, ends.within)) (omega (arith, w.if-end-own.true))))
      | else-end-own w ↦ rw w.behind-is w.piece_at-behind.ensures
    ] in
    let border : c.is_some_and-border.result ≡ is_line (option_map (λ q. drawn_part q.now) c.if-end-own.behind) =
    first_of (search (rules, line_some), grind (arith, common_steps, line_some)) in
    let arms : Arms t p c.args.at.now.x l.y c.min-end.result c.args.at.now.left c.is_some_and-border.result
    c.above-up.result.border c.stretch_at-down.result.border = record {
      some = omega (arith, ends.some, ends.within);
      own = λ v a b. o.more v a (omega arith);
      above = λ v a b. c.above-up.ensures.same v a (omega arith);
      below = λ v a b. c.stretch_at-down.ensures.same v a (omega arith);
      before = sym c.requires.at.left;
      after = sym (ap is_line behind) ∙ sym border;
    } in
    let stop : Ends c.args.at.now.x c.min-end.result c.run_end-last.result c.args.at.now.left c.is_some_and-border.result
    c.if-last-end-2.followed = record {
      some = ends.some;
      within = ends.within;
      begun = ends.begun;
      ended = ends.ended;
      more = λ h. elim c.if-last-end-2.branch [
        | then-last-end-2 w ↦ w.followed-is ∙ grind (arith, nat_tests)
        | else-last-end-2 w ↦ absurd (omega (arith, h, w.if-last-end-2.false))
      ];
      all = λ h. elim c.if-last-end-2.branch [
        | then-last-end-2 w ↦ absurd (omega (arith, h, w.if-last-end-2.true))
        | else-last-end-2 w ↦ w.followed-is
      ];
    } in
    let next : option_map (λ q. drawn_part q.now) c.if-last-end.next ≡ owner t.parts c.run_end-last.result l.y = elim c.if-last-end.branch [
      | then-last-end w ↦ rw w.next-is
          (sym (o.more c.run_end-last.result (omega (arith, ends.some)) (omega (arith, w.if-last-end.true))))
      | else-last-end w ↦ rw w.next-is
          (subst (λ v. option_map (λ q. drawn_part q.now) c.if-end-own.behind ≡ owner t.parts v l.y)
          (omega (arith, w.if-last-end.false, ends.within)) behind)
    ] in
    record {
      run = record {
        some = omega (arith, ends.some);
        within = omega (arith, ends.some, ends.within, o.fits);
        owned = λ v a b. o.more v a (omega (arith, ends.some, ends.within));
        alike = λ k v a b. run_chars t p c.args.at.now.x l.y _ _ _ _ _ _ _ arms stop k v a (omega (arith, ends.some)) ∙ sym c.border_char.ensures;
      };
      next = record {
        within = omega (arith, ends.some, ends.within, o.fits);
        piece = next;
        left = sym (kind_before t c.args.at.now.x l.y c.run_end-last.result p o ends.some (omega (arith, ends.within)) ∙ c.requires.kind);
        up = λ v a b. c.above-up.ensures.same v (omega (arith, a, ends.some)) b;
        down = λ v a b. c.stretch_at-down.ensures.same v (omega (arith, a, ends.some)) b;
      };
      behind = omega (arith, ends.some);
    }
