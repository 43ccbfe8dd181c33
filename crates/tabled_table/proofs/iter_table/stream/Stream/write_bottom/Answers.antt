use Rattle.tabled_table.proofs.Names.{false, fill, lines-finished, lines-stopped-first, refl, replicate}
use Rattle.tabled_table.proofs.Stream.Finished.{ended-below}
use Rattle.tabled_table.proofs.iter_table.stream.Stream.write_bottom.Goals as goal

pub returns-in_err-write_rule-clause-printed : goal.returns-in_err-write_rule-clause-printed
returns-in_err-write_rule-clause-printed g c =
    λ settings config ahead_rows shown start h w e p.
    let total = c.args.self.now.lines.columns.total in
    let bottom = c.args.self.now.lines.columns.layout.now.frame.margin.bottom in
    ended-below _ false c.from_residual.result total p h w e
    (lines-stopped-first false (replicate bottom.size (fill bottom.fill total)) _ c.from_residual.result c.in_err-write_rule.field-0.0
    c.in_err-write_rule.ensures.printed c.from_residual.ensures.1 refl)

pub returns-clause-printed : goal.returns-clause-printed
returns-clause-printed g c =
    λ settings config ahead_rows shown start h w e p.
    ended-below _ c.write_margin.new.self.begun c.write_margin.result c.args.self.now.lines.columns.total p h w e
    (lines-finished _ _ _ _ c.write_margin.result c.in_ok-write_rule.ensures.printed c.write_margin.ensures.printed refl)
