use Rattle.tabled_base.specs.Content.{content_text}
use Rattle.tabled_pool.proofs.Names.{[], ap, arith, block_sheet_of, fill, length, length-map, map, max, string_bytes, sym, ◌+◌, ◌∙◌, ◌≡◌}
use Rattle.tabled_pool.proofs.Splits.{when_ok}
use Rattle.tabled_pool.specs.Inherited.{bordered_block, inherited_by, plan_for}
use Rattle.tabled_pool.specs.declared.drawn_block.DrawnBlock.{DrawnBlock}
use Rattle.tabled_pool.proofs.Besides.{added_there, any_default, below, line_added, whole_added}
use Rattle.tabled_pool.proofs.bordered_text.BorderedText.add_to.Goals as goal
use Rattle.tabled_pool.proofs.bordered_text.BorderedText.add_to.Goals.{then-y-own+in_ok-add_line, else-y-own+in_ok-add_spaces}

pub add_line-requires-clause-there : goal.add_line-requires-clause-there
add_line-requires-clause-there c =
    let s = c.args.self.now in
    added_there (block_sheet_of c.args.block.now) (bordered_block (plan_for s) s.own (inherited_by s) (content_text s.content.now)) c.loop-y.y
    c.loop-y.block c.begin_line.new.self c.loop-y.invariant.added c.in_ok-begin_line.ensures.lines

pub add_spaces-requires : goal.add_spaces-requires
add_spaces-requires c =
    let s = c.args.self.now in
    added_there (block_sheet_of c.args.block.now) (bordered_block (plan_for s) s.own (inherited_by s) (content_text s.content.now)) c.loop-y.y
    c.loop-y.block c.begin_line.new.self c.loop-y.invariant.added c.in_ok-begin_line.ensures.lines

pub add_line-requires-clause-cursor : goal.add_line-requires-clause-cursor
add_line-requires-clause-cursor c = c.loop-y.invariant.cursor

pub loop-y-preserved : goal.loop-y-preserved
loop-y-preserved c =
    let s = c.args.self.now in
    let q = bordered_block (plan_for s) s.own (inherited_by s) (content_text s.content.now) in
    let p = block_sheet_of c.args.block.now in
    let y = c.loop-y.y in
    record {
      added = elim c.if-y-own.branch [
        | then-y-own+in_ok-add_line w ↦ line_added p q y c.loop-y.block c.begin_line.new.self c.if-y-own.block _ c.loop-y.invariant.added
            c.begin_line.ensures.width c.in_ok-begin_line.ensures.lines (ap (λ (b : DrawnBlock). b.width) w.block-is ∙ w.add_line.ensures.width)
            (ap (λ (b : DrawnBlock). map string_bytes b.lines.items) w.block-is ∙ w.in_ok-add_line.ensures.lines)
            (any_default q.lines y [] (fill 32 q.width) (omega (arith, w.if-y-own.true, c.in-Some-Some.ensures')))
        | else-y-own+in_ok-add_spaces w ↦ line_added p q y c.loop-y.block c.begin_line.new.self c.if-y-own.block _ c.loop-y.invariant.added
            c.begin_line.ensures.width c.in_ok-begin_line.ensures.lines (ap (λ (b : DrawnBlock). b.width) w.block-is ∙ w.add_spaces.ensures.width)
            (ap (λ (b : DrawnBlock). map string_bytes b.lines.items) w.block-is ∙ w.in_ok-add_spaces.ensures.lines)
            (ap (fill 32) c.in-Some-Some.ensures ∙ sym (below q y (omega (arith, w.if-y-own.false, c.in-Some-Some.ensures'))))
      ];
      cursor = c.move_cursor.ensures c.loop-y.invariant.cursor;
    }

pub returns : goal.returns
returns c =
    let s = c.args.self.now in
    let q = bordered_block (plan_for s) s.own (inherited_by s) (content_text s.content.now) in
    let p = block_sheet_of c.args.block.now in
    let all : c.loop-y.y ≡ max (length q.lines) (length p.lines) = omega (
      arith,
      c.loop-y-test.false,
      c.loop-y.auto.y-end,
      c.max-y-end.ensures,
      c.in-Some-Some.ensures',
      c.len.ensures,
      length-map c.args.block.now.lines.items string_bytes,
    ) in
    when_ok c.widen.result (λ e. whole_added p q c.loop-y.block c.widen.new.self c.loop-y.y all c.loop-y.invariant.added e.1
    (e.0 ∙ ap (λ n. c.loop-y.block.width + n) c.in-Some-Some.ensures)) c.widen.ensures
