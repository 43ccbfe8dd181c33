use Rattle.tabled_line.proofs.Names.{ap, arith, before_text, inner_width, ◌+◌, ◌-◌, ◌∙◌, ◌≡◌}
use Rattle.tabled_line.proofs.Spacing.{before-within, cell-spaced, line-within}
use Rattle.tabled_line.proofs.placement.place_text.Goals as goal

pub returns-in_ok-free-in-Text : goal.returns-in_ok-free-in-Text
returns-in_ok-free-in-Text g c =
    let rs = g.R.Row.sheet c.args.row.now in
    let style = rs.style c.args.column in
    let width = rs.columns.width c.args.column in
    let line = c.in-Text.text_line in
    let text = c.in-Text.ensures in
    let placement = c.in_ok-placement-in-Text.ensures rs c.requires.describes c.requires.inside c.requires.width in
    let pad : c.in_ok-placement-in-Text.placement.before ≡ style.padding.left.size = ap (λ a. a.before) placement.0 in
    let content_width : c.in_ok-placement-in-Text.placement.content_width ≡ inner_width style width =
    ap (λ a. a.content_width) placement.0 ∙ ap (inner_width style) c.requires.width in
    let fits = c.in_ok-free-in-Text.ensures in
    let free : c.in_ok-free-in-Text.free ≡ inner_width style width - line.widest = omega (arith, fits.0, fits.1, content_width) in
    let shift : c.before_text.result ≡ before_text style.horizontal (inner_width style width - line.widest) =
    c.before_text.ensures ∙ ap (λ h. before_text h c.in_ok-free-in-Text.free) (ap (λ a. a.horizontal) placement.0)
    ∙ ap (before_text style.horizontal) free in
    let within = before-within style.horizontal (inner_width style width - line.widest) in
    let narrow = line-within text.line_is in
    let before : c.in_ok-placement-in-Text.placement.before + c.before_text.result ≡ style.padding.left.size + c.before_text.result =
    ap (λ n. n + c.before_text.result) pad in
    let behind : c.args.width - (c.in_ok-placement-in-Text.placement.before + c.before_text.result) - line.columns
    ≡ inner_width style width - c.before_text.result - line.columns + style.padding.right.size =
    omega (arith, before, shift, within, narrow, fits.0, free, content_width, placement.1.fits, c.requires.width) in
    let whole : c.in_ok-placement-in-Text.placement.before + c.before_text.result
    + (line.columns + (c.args.width - (c.in_ok-placement-in-Text.placement.before + c.before_text.result) - line.columns)) ≡ width =
    omega (arith, before, shift, within, narrow, fits.0, free, content_width, placement.1.fits, c.requires.width) in
    record {
      line_is = cell-spaced c.before_text.result _ _ (omega (arith, c.requires.line.index_in, c.requires.line.height_is)) text
          placement.1.spaced shift before behind whole;
      whole = whole;
    }

pub overflow_sub-result-in-Text : goal.overflow_sub-result-in-Text
overflow_sub-result-in-Text g c =
    let rs = g.R.Row.sheet c.args.row.now in
    let style = rs.style c.args.column in
    let placement = c.in_ok-placement-in-Text.ensures rs c.requires.describes c.requires.inside c.requires.width in
    let pad = ap (λ a. a.before) placement.0 in
    let content_width = ap (λ a. a.content_width) placement.0 ∙ ap (inner_width style) c.requires.width in
    let within = before-within c.in_ok-placement-in-Text.placement.horizontal c.in_ok-free-in-Text.free in
    let narrow = line-within c.in-Text.ensures.line_is in
    let fits = c.in_ok-free-in-Text.ensures in
    omega (arith, narrow, fits.0, fits.1, c.before_text.ensures, within, pad, content_width, placement.1.fits, c.requires.width)
