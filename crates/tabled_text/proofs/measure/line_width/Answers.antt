use Rattle.tabled_text.proofs.Names.{sym, ◌∙◌}
use Rattle.tabled_text.proofs.PlainLines.{plain_line-printable}
use Rattle.tabled_text.proofs.measure.line_width.Goals as goal

pub returns-then-is_printable-clause-value : goal.returns-then-is_printable-clause-value
returns-then-is_printable-clause-value c =
    sym (plain_line-printable c.args.line.now (sym c.is_printable.ensures ∙ c.if-is_printable.true)).columns
