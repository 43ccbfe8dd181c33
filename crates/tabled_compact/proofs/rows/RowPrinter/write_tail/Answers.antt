use Rattle.tabled_compact.proofs.Names.{[], ap, if◌then◌else◌, lines-finished, lines-stopped-first, refl, sym, tail_lines, ◌∙◌}
use Rattle.tabled_compact.specs.CompactLines.{margin_lines}
use Rattle.tabled_compact.proofs.rows.RowPrinter.write_tail.Goals as goal

pub returns-in_err-write_rule-clause-printed : goal.returns-in_err-write_rule-clause-printed
unfolding tail_lines
returns-in_err-write_rule-clause-printed g c =
    let t = c.args.self.now.lines.columns in
    lines-stopped-first _ (margin_lines t t.config.margin.bottom) _ _ _ c.in_err-write_rule.ensures.printed c.from_residual.ensures.1
    (ap (λ b. if b then tail_lines t else []) (sym c.if-not-has_begun.ensures)
    ∙ (rw (c.line_at.ensures, c.get_borders.ensures, c.config-config.ensures) refl))

pub returns-clause-printed : goal.returns-clause-printed
unfolding tail_lines
returns-clause-printed g c =
    let t = c.args.self.now.lines.columns in
    lines-finished _ _ _ _ _ c.in_ok-write_rule.ensures.printed c.write_margin.ensures.printed
    (ap (λ b. if b then tail_lines t else []) (sym c.if-not-has_begun.ensures)
    ∙ (rw (c.get_margin.ensures, c.line_at.ensures, c.get_borders.ensures, c.config-config.ensures, c.args.self.now.whole) refl))
