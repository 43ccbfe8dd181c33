use Rattle.std.proofs.Common.{ap}
use Rattle.tabled_records.specs.TextRows.{text_rows}
use Rattle.tabled_c.specs.Printed.{IsTextTableCause}
use Rattle.tabled_c.proofs.Given.{lines_failed, lines_given, unread_lines}
use Rattle.tabled_c.proofs.Returning.{passed_on}
use Rattle.tabled_c.proofs.formatting.text_table.Goals as goal

pub returns-in_err-format-clause-err : goal.returns-in_err-format-clause-err
returns-in_err-format-clause-err c =
    passed_on (IsTextTableCause c.args.text.now c.args.layout.now) _ _ c.from_residual.ensures.1
    (unread_lines c.args.text.now c.args.layout.now _ c.in_err-format.ensures.err)

pub returns-clause-ok : goal.returns-clause-ok
returns-clause-ok c =
    lines_given (text_rows c.in-Ok.text.now) c.args.layout.now c.in_ok-format.format c.in_ok-format.ensures.ok c.args.text.now
    (ap text_rows c.in-Ok.ensures.cases.0) c.in-Ok.ensures.cases.1 c.lines_table.result c.lines_table.ensures.ok

pub returns-clause-err : goal.returns-clause-err
returns-clause-err c =
    lines_failed (text_rows c.in-Ok.text.now) c.args.layout.now c.in_ok-format.format c.in_ok-format.ensures.ok c.args.text.now
    (ap text_rows c.in-Ok.ensures.cases.0) c.lines_table.result c.lines_table.ensures.err
