use Rattle.std.proofs.Common.{sym, ◌∙◌}
use Rattle.tabled_records.proofs.CutLent.{printable-columns, printable-lines}
use Rattle.tabview_cells.proofs.Printed.{shown-printable}
use Rattle.tabview_cells.proofs.choice.push_shown.Goals as goal

pub push-requires-clause-columns : goal.push-requires-clause-columns
push-requires-clause-columns c = sym (printable-columns c.args.cell.now (sym c.is_plain.ensures ∙ c.if-is_plain.true))

pub push-requires-clause-lines : goal.push-requires-clause-lines
push-requires-clause-lines c = sym (printable-lines c.args.cell.now (sym c.is_plain.ensures ∙ c.if-is_plain.true))

pub returns-then-is_plain-clause-ok : goal.returns-then-is_plain-clause-ok
returns-then-is_plain-clause-ok c =
    rw (sym (shown-printable c.args.shown c.args.cell.now (sym c.is_plain.ensures ∙ c.if-is_plain.true))) c.push.ensures.ok
