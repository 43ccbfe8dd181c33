use Rattle.tabled_line.proofs.Leading.{one-line, one-line-stopped}
use Rattle.tabled_line.proofs.line_printer.write_unfilled_line.Goals as goal

pub returns-in_err-write_break : goal.returns-in_err-write_break
returns-in_err-write_break g c = one-line-stopped _ _ _ _ _ c.in_err-write_break.ensures.printed c.from_residual.ensures.1

pub returns : goal.returns
returns g c = one-line _ _ _ _ _ c.in_ok-write_break.ensures.printed c.write_row_line.ensures c.write_break.ensures.after
