use Rattle.tabled_line.proofs.Names.{IsAt, ap, fill_above, subst, sym, ◌∙◌, ◌≡◌}
use Rattle.tabled_base.specs.Content.{content_text}
use Rattle.tabled_line.proofs.Spacing.{top-above}
use Rattle.tabled_line.proofs.cell_lines.first_cursor.Goals as goal

pub returns-then-top : goal.returns-then-top
returns-then-top g c =
    let rs = g.R.Row.sheet c.args.row.now in
    let style = rs.style c.args.column in
    let text = rs.text c.args.column in
    let none = top-above style rs.height text (c.requires.top c.if-top.true) in
    subst (λ t. IsAt t (fill_above style rs.height text) 0 c.new.result) c.content-content.ensures
    (subst (λ above. IsAt (content_text c.content-content.result) above 0 c.new.result) (sym none) c.new.ensures)

pub returns : goal.returns
returns g c =
    let rs = g.R.Row.sheet c.args.row.now in
    let style = rs.style c.args.column in
    let text = content_text c.content-content.result in
    let above : c.text_start.result ≡ fill_above style rs.height text =
    c.text_start.ensures ∙ ap (λ s. fill_above s c.height.result text) (c.at.ensures ∙ c.requires.style) ∙ ap (λ h. fill_above style h text) c.height.ensures in
    subst (λ t. IsAt t (fill_above style rs.height t) 0 c.new-2.result) c.content-content.ensures
    (subst (λ above. IsAt text above 0 c.new-2.result) above c.new-2.ensures)
