use Rattle.std.proofs.Common.{string_bytes}
use Rattle.tabled.specs.Planned.{measured}
use Rattle.tabled_size.specs.Sheet.{estimated}
use Rattle.tabled_c.proofs.Given.{passed_range, sends_printed, text_sent}
use Rattle.tabled_c.proofs.printing.rows_text.Goals as goal

pub returns-in-Ok-clause-ok : goal.returns-in-Ok-clause-ok
returns-in-Ok-clause-ok c =
    sends_printed (measured c.args.plan) (estimated c.args.rows.now c.args.settings.now) (string_bytes c.new-out.result)
    (string_bytes c.print_measured.new.sink) c.new-out.ensures.bytes c.in-Ok.ensures

pub returns-in-Err-Range-clause-err : goal.returns-in-Err-Range-clause-err
returns-in-Err-Range-clause-err c =
    passed_range (Unit {0}) (measured c.args.plan) (estimated c.args.rows.now c.args.settings.now) (text_sent (string_bytes c.new-out.result))
    (text_sent (string_bytes c.print_measured.new.sink)) c.in-Err-Range.field-0 c.in-Err-Range.field-0-is c.in-Err-Range.ensures
