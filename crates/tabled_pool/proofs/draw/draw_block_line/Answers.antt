use Rattle.tabled_pool.proofs.Names.{CellStyle, List, Mark, None, Rectangle, Sides, [], arith, coloured, fill, get_or, leaf_line}
use Rattle.tabled_pool.proofs.Names.{length, lines_of, marks_of, nat_tests, part_of, plan_of, pool_block, slice_get, Leaf, ℕ, ◌-◌, ◌∙◌}
use Rattle.tabled_pool.proofs.Names.{◌<◌, ◌≡◌, ◌≤◌}
use Rattle.tabled_base.specs.Content.{content_text}
use Rattle.tabled_pool.specs.declared.drawing.Drawing.{Drawing}
use Rattle.tabled_pool.specs.Block.{line_below, lines_above}
use Rattle.tabled_pool.proofs.PoolBlocks.{block-above, block-top, block-text, past_from_none, block-below}
use Rattle.tabled_pool.proofs.draw.draw_block_line.Goals as goal

shown_line : (d : Drawing) (r : Rectangle) (text : List ℕ) (k : ℕ) (line : List ℕ)
    → get_or (pool_block d.style (marks_of d.padding_colors) r.width r.height text) k [] ≡ line → leaf_line (plan_of d) (part_of Leaf r text) k ≡ line
unfolding leaf_line
shown_line d r text k line h = h

below_padded : (s : CellStyle) (ms : Sides Mark) (w i : ℕ) → i < s.padding.bottom.size → line_below s ms w i ≡ coloured ms.bottom (fill s.padding.bottom.fill w)
below_padded s ms w i h = grind (arith, nat_tests)

below_blank : (s : CellStyle) (ms : Sides Mark) (w i : ℕ) → s.padding.bottom.size ≤ i → line_below s ms w i ≡ fill 32 w
below_blank s ms w i h = grind (arith, nat_tests)

below : (d : Drawing) (r : Rectangle) (text : List ℕ) (k : ℕ) → k < r.height → lines_above d.style r.height text ≤ k
    → d.style.padding.top.size ≤ k - lines_above d.style r.height text
    → None ≡ slice_get (lines_of text) (k - lines_above d.style r.height text - d.style.padding.top.size)
    → leaf_line (plan_of d) (part_of Leaf r text) k ≡ line_below d.style (marks_of d.padding_colors) r.width
    (k - lines_above d.style r.height text - d.style.padding.top.size - length (lines_of text))
below d r text k h l m n =
    shown_line d r text k _ (block-below d.style (marks_of d.padding_colors) r.width r.height text k h l m (past_from_none (lines_of text) _ n))

pub returns-then-index-above : goal.returns-then-index-above
returns-then-index-above g c =
    let l = rw c.lines_above-above.ensures.value at c.if-index-above.true in
    rw (shown_line c.args.drawing.now c.args.place (content_text c.args.text.now.content) _ _ (block-above _ _ _ _ _ _ l)) c.write_fill.ensures

pub returns-then-padded-top : goal.returns-then-padded-top
returns-then-padded-top g c =
    let l = rw c.lines_above-above.ensures.value at c.if-index-above.false in
    let m = rw c.lines_above-above.ensures.value at c.if-padded-top.true in
    rw (shown_line c.args.drawing.now c.args.place (content_text c.args.text.now.content) _ _ (block-top _ _ _ _ _ _ l m)) c.draw_colored_fill.ensures

pub returns-then-below-bottom : goal.returns-then-below-bottom
returns-then-below-bottom g c =
    let d = c.args.drawing.now in
    let a = c.lines_above-above.ensures.value in
    let b = rw (a, c.args.text.now.content.lines_are) at c.if-below-bottom.true in
    rw (below d c.args.place (content_text c.args.text.now.content) _ c.requires.inside (rw a at c.if-index-above.false) (rw a at c.if-padded-top.false)
    (rw a at c.in_default.ensures.line) ∙ below_padded d.style (marks_of d.padding_colors) c.args.place.width _ b) c.draw_colored_fill-then-below-bottom.ensures

pub returns-in_default : goal.returns-in_default
returns-in_default g c =
    let d = c.args.drawing.now in
    let a = c.lines_above-above.ensures.value in
    let b = rw (a, c.args.text.now.content.lines_are) at c.if-below-bottom.false in
    rw (below d c.args.place (content_text c.args.text.now.content) _ c.requires.inside (rw a at c.if-index-above.false) (rw a at c.if-padded-top.false)
    (rw a at c.in_default.ensures.line) ∙ below_blank d.style (marks_of d.padding_colors) c.args.place.width _ b) c.write_fill-in_default.ensures

pub returns : goal.returns
returns g c =
    let a = c.lines_above-above.ensures.value in
    let text = content_text c.args.text.now.content in
    rw (shown_line c.args.drawing.now c.args.place text _ _ (block-text _ _ _ _ _ _ c.in-Some.line.now (rw a at c.if-index-above.false)
    (rw a at c.if-padded-top.false) (rw a at c.in-Some.ensures.line))) (c.draw_text_line.ensures text c.args.text.now.content.columns_are)
