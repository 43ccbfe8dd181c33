use Rattle.tabled_line.proofs.Each.{copies-append, copies-rest}
use Rattle.tabled_line.proofs.Leading.{break-stopped, line-sent, line-stopped, lines-further, lines-stopped}
use Rattle.tabled_line.proofs.line_printer.LinePrinter.write_margin.Goals as goal

pub returns-in_err-write_break-clause-printed : goal.returns-in_err-write_break-clause-printed
returns-in_err-write_break-clause-printed g c =
    lines-stopped _ _ _ _ _ c.lines.invariant.printed (break-stopped _ c.in_err-write_break.ensures.printed)
    c.from_residual.ensures.1 (copies-rest _ _ _ c.lines-test.true)

pub returns-in_err-write_fill-clause-printed : goal.returns-in_err-write_fill-clause-printed
returns-in_err-write_fill-clause-printed g c =
    lines-stopped _ _ _ _ _ c.lines.invariant.printed (line-stopped c.in_ok-write_break.ensures.printed c.in_err-write_fill.ensures)
    c.from_residual-in_err-write_fill.ensures.1 (copies-rest _ _ _ c.lines-test.true)

pub lines-preserved : goal.lines-preserved
lines-preserved g c = record {
  printed = lines-further c.lines.invariant.printed (line-sent c.in_ok-write_break.ensures.printed c.in_ok-write_fill.ensures c.write_break.ensures.after)
      (copies-append _ _ 1);
  same = c.lines.invariant.same;
  kept = c.lines.invariant.kept;
}
