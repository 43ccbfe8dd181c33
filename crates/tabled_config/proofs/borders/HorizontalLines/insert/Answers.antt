use Rattle.std.proofs.Common.{◌==◌, ◌∙◌, ap, cond, Some}
use Rattle.std.specs.Cmp.{unsigned_tied}
use Rattle.tabled_config.specs.Lines.{line_set}
use Rattle.tabled_config.proofs.borders.HorizontalLines.insert.Goals as goal

pub returns-clause-latest : goal.returns-clause-latest
returns-clause-latest c =
    λ i. c.in_ok-insert.ensures.updates.0 i
    ∙ (ap (λ t. cond t (Some c.args.line) (line_set c.self.inside.lines.entries i)) (unsigned_tied c.args.index i)
    ∙ ap (λ lines. cond (c.args.index == i) (Some c.args.line) (line_set lines i)) c.self.view_is)
