use Rattle.tabled_pool.proofs.Names.{append_assoc, finished, further, refl, stopped, stopped-first}
use Rattle.tabled_line.proofs.Leading.{one-line, one-line-stopped}
use Rattle.tabled_pool.proofs.table_lines.draw_next.Goals as goal

pub returns-in_err-write_break : goal.returns-in_err-write_break
returns-in_err-write_break g c =
    one-line-stopped _ _ _ _ _ c.in_err-write_break.ensures.printed c.from_residual.ensures.1

pub returns-in_err-draw_colored_fill : goal.returns-in_err-draw_colored_fill
returns-in_err-draw_colored_fill g c =
    one-line _ _ _ _ _ c.in_ok-write_break.ensures.printed
    (stopped-first _ _ _ c.in_err-draw_colored_fill.ensures
    c.from_residual-in_err-draw_colored_fill.ensures.1 refl)
    c.write_break.ensures.after

pub returns-in_err-write : goal.returns-in_err-write
returns-in_err-write g c =
    one-line _ _ _ _ _ c.in_ok-write_break.ensures.printed
    (stopped _ _ _ c.in_ok-draw_colored_fill.ensures c.in_err-write.ensures
    c.from_residual-in_err-write.ensures.1 refl)
    c.write_break.ensures.after

pub returns : goal.returns
returns g c =
    one-line _ _ _ _ _ c.in_ok-write_break.ensures.printed
    (finished _ _ _ _ (further c.in_ok-draw_colored_fill.ensures c.in_ok-write.ensures refl)
    c.draw_colored_fill-2.ensures (simp append_assoc))
    c.write_break.ensures.after
