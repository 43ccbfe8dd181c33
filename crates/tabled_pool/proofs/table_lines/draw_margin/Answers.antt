use Rattle.tabled_pool.proofs.Names.{lines-further, lines-stopped}
use Rattle.tabled_line.proofs.Each.{copies-append, copies-rest}
use Rattle.tabled_line.proofs.Leading.{lines-none}
use Rattle.tabled_pool.proofs.table_lines.draw_margin.Goals as goal

pub lines-init : goal.lines-init
lines-init g c = lines-none _ _

pub returns-in_err-draw_next : goal.returns-in_err-draw_next
returns-in_err-draw_next g c =
    lines-stopped _ _ _ _ _ c.lines.invariant c.in_err-draw_next.ensures c.from_residual.ensures.1 (copies-rest _ _ _ c.lines-test.true)

pub lines-preserved : goal.lines-preserved
lines-preserved g c = lines-further c.lines.invariant c.in_ok-draw_next.ensures (copies-append _ _ 1)
