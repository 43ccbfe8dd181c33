use Rattle.tabled_pool.proofs.Names.{ap, refl, drawn_part, subst, ◌+◌, ◌-◌, ◌∙◌, ◌≡◌}
use Rattle.tabled_base.specs.Content.{content_text}
use Rattle.tabled_line.specs.Block.{fill_above}
use Rattle.tabled_line.specs.Cursors.{IsAt}
use Rattle.tabled_pool.proofs.TallCursors.{from_top}
use Rattle.tabled_pool.proofs.tall_texts.TallText.new.Goals as goal

pub returns : goal.returns
returns c =
    let p = drawn_part c.args.piece.now in
    let style = c.args.style.now in
    let content = c.content-content.result in
    let cursor = c.new.result in
    let own : content_text content ≡ p.text = c.content-content.ensures in
    let first : c.in_ok-first.first ≡ p.place.y + fill_above style p.place.height p.text =
    c.in_ok-first.ensures.1 ∙ ap (λ n. p.place.y + n) (c.text_start.ensures ∙ ap (fill_above style p.place.height) own) in
    let start = c.in_ok-first.first in
    let at = from_top (content_text content) (start - c.args.y) start c.args.y cursor refl c.if-first-y.false c.new.ensures in
    let from = p.place.y + fill_above style p.place.height p.text in
    let there = subst (λ n. IsAt (content_text content) n c.args.y cursor) first at in
    (refl, record { text = own; cursor = subst (λ text. IsAt text from c.args.y cursor) own there })
