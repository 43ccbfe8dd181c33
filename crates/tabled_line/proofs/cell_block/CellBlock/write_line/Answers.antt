use Rattle.tabled_line.proofs.Names.{ap, option_map, sym, ◌∙◌}
use Rattle.tabled_base.specs.Content.{content_text}
use Rattle.tabled_line.proofs.Blocks.{block-above, block-text, block-below}
use Rattle.tabled_line.proofs.cell_block.CellBlock.write_line.Goals as goal

pub returns-then-index-above : goal.returns-then-index-above
returns-then-index-above g c =
    let l = rw c.text_start-above.ensures at c.if-index-above.true in
    rw (block-above c.args.self.now.style c.args.self.now.width c.args.self.now.height (content_text c.args.self.now.content) c.args.index c.requires.index l) c.write_fill.ensures

pub write_text_line-requires : goal.write_text_line-requires
write_text_line-requires g c = rw c.in-Some.is at c.requires.cursor.columns_are

pub returns-in-Some : goal.returns-in-Some
returns-in-Some g c =
    let l = rw c.text_start-above.ensures at c.if-index-above.false in
    let e = ap (option_map (λ line. line.0.now)) (sym c.in-Some.is) ∙ c.requires.cursor.line_is l in
    rw (block-text c.args.self.now.style c.args.self.now.width c.args.self.now.height (content_text c.args.self.now.content) c.args.index c.in-Some.line.now c.requires.index l e) c.write_text_line.ensures

pub returns-in-None : goal.returns-in-None
returns-in-None g c =
    let l = rw c.text_start-above.ensures at c.if-index-above.false in
    let e = ap (option_map (λ line. line.0.now)) (sym c.in-None.is) ∙ c.requires.cursor.line_is l in
    rw (block-below c.args.self.now.style c.args.self.now.width c.args.self.now.height (content_text c.args.self.now.content) c.args.index c.requires.index l e) c.write_fill-in-None.ensures
