use Rattle.tabled_base.specs.Content.{content_text}
use Rattle.tabled_pool.proofs.Names.{arith}
use Rattle.tabled_pool.specs.Inherited.{inherited_by, plan_for}
use Rattle.tabled_pool.proofs.Bordered.{bottom_line, inner_line, top_line}
use Rattle.tabled_pool.proofs.bordered_text.BorderedText.append_line.Goals as goal

pub returns-then-y-top : goal.returns-then-y-top
returns-then-y-top c =
    let s = c.args.self.now in
    let top = c.top-top.ensures in
    rw (top_line (plan_for s) s.own (inherited_by s) (content_text s.content.now) c.args.y (omega (arith, top, c.if-y-top.true))) c.add_top.ensures

pub add_inner-requires-clause-cursor : goal.add_inner-requires-clause-cursor
add_inner-requires-clause-cursor c = rw c.top-top.ensures c.requires.cursor

pub returns-then-row-self : goal.returns-then-row-self
returns-then-row-self c =
    let s = c.args.self.now in
    let top = c.top-top.ensures in
    rw (inner_line (plan_for s) s.own (inherited_by s) (content_text s.content.now) c.args.y (omega (arith, top, c.if-y-top.false))
    (omega (arith, top, c.if-row-self.true))) (rw top at c.add_inner.ensures)

pub returns : goal.returns
returns c =
    let s = c.args.self.now in
    let top = c.top-top.ensures in
    rw (bottom_line (plan_for s) s.own (inherited_by s) (content_text s.content.now) c.args.y (omega (arith, top, c.if-y-top.false))
    (omega (arith, top, c.if-row-self.false)) c.requires.there) c.add_bottom.ensures
