use Rattle.tabled_line.proofs.Names.{append_assoc, refl, row_line}
use Rattle.tabled_line.proofs.Sending.{further, finished, stopped, stopped-first}
use Rattle.tabled_line.proofs.row.write_row_line.Goals as goal

pub returns-in_err-write_left_edge : goal.returns-in_err-write_left_edge
unfolding row_line
returns-in_err-write_left_edge g c = stopped-first _ _ _ (rw c.frame-frame.ensures at c.in_err-write_left_edge.ensures) c.from_residual.ensures.1 refl

pub returns-in_err-write_cells : goal.returns-in_err-write_cells
unfolding row_line
returns-in_err-write_cells g c =
    stopped _ _ _ (rw c.frame-frame.ensures at c.in_ok-write_left_edge.ensures) c.in_err-write_cells.ensures c.from_residual-in_err-write_cells.ensures.1 refl

pub returns : goal.returns
unfolding row_line
returns g c =
    finished _ _ _ _ (further c.in_ok-write_left_edge.ensures c.in_ok-write_cells.ensures refl) c.write_right_edge.ensures (rw (c.frame-frame.ensures, append_assoc) refl)
