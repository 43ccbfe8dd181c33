use Rattle.tabled_line.proofs.Names.{IsAt, arith, fill_above, subst, ◌≡◌}
use Rattle.tabled_base.specs.Content.{content_text}
use Rattle.tabled_line.proofs.cell_lines.RowLine.cursor.Goals as goal

pub lines-init : goal.lines-init
lines-init c = subst (λ above. IsAt (content_text c.args.cell.now.content) above 0 c.new-cursor.result) c.text_start.ensures c.new-cursor.ensures

pub lines-preserved : goal.lines-preserved
lines-preserved c = c.advance.ensures _ _ _ c.lines.invariant.ahead

pub returns : goal.returns
returns c =
    let cell = c.args.cell.now in
    let end : c.lines._index ≡ c.args.self.now.index = (let past = c.lines-test.false in let upto = c.lines.auto._index-end in omega (arith, past, upto)) in
    let text = content_text cell.content in
    subst (λ i. IsAt text (fill_above cell.style cell.height text) i c.lines.cursor) end c.lines.invariant
