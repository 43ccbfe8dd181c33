use Rattle.tabled_compact.proofs.Names.{Bool, WritesLines, above, ap, compact_columns, lines-finished, lines-stopped-first, refl, subst, sym}
use Rattle.tabled_compact.proofs.Names.{◌∙◌}
use Rattle.tabled_config.specs.Frame.{if_any, top_line}
use Rattle.tabled_line.specs.Row.{rule_if}
use Rattle.tabled_compact.specs.CompactLines.{head_lines}
use Rattle.tabled_compact.proofs.rows.RowPrinter.write_above.Goals as goal

pub returns-then-has_begun-clause-printed : goal.returns-then-has_begun-clause-printed
unfolding above
returns-then-has_begun-clause-printed g c =
    let self = c.args.self.now in
    let P : Bool → Type 0 = λ b. WritesLines (g.S.TextSink.sent c.args.sink.now) self.lines.begun c.write_rule.result
    (g.S.TextSink.sent c.write_rule.new.sink) c.write_rule.new.self.begun (above self.lines.columns b) in
    subst P c.if-has_begun.ensures
    (rw (c.separator.ensures, c.get_borders.ensures, c.config-config.ensures) at c.write_rule.ensures.printed)

pub returns-in_err-write_margin-clause-printed : goal.returns-in_err-write_margin-clause-printed
unfolding above head_lines
returns-in_err-write_margin-clause-printed g c =
    let t = c.args.self.now.lines.columns in
    lines-stopped-first _ (rule_if (compact_columns t) (if_any (top_line t.config.borders))) _ _ _ c.in_err-write_margin.ensures.printed
    c.from_residual.ensures.1
    (ap (above t) (sym c.if-has_begun.ensures) ∙ (rw (c.get_margin.ensures, c.config-config.ensures, c.args.self.now.whole) refl))

pub returns-clause-printed : goal.returns-clause-printed
unfolding above head_lines
returns-clause-printed g c =
    let t = c.args.self.now.lines.columns in
    lines-finished _ _ _ _ _ c.in_ok-write_margin.ensures.printed (rw c.in_ok-write_margin.ensures.same at c.write_rule-2.ensures.printed)
    (ap (above t) (sym c.if-has_begun.ensures)
    ∙ (rw (c.get_margin.ensures, c.line_at.ensures, c.get_borders-2.ensures, c.config-config.ensures, c.args.self.now.whole) refl))
