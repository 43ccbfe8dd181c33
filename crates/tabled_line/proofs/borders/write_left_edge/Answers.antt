use Rattle.tabled_line.proofs.Names.{left_edge, refl}
use Rattle.tabled_line.proofs.Sending.{finished, stopped-first}
use Rattle.tabled_line.proofs.borders.write_left_edge.Goals as goal

pub returns-in_err-write_fill : goal.returns-in_err-write_fill
unfolding left_edge
returns-in_err-write_fill g c = stopped-first _ _ _ c.in_err-write_fill.ensures c.from_residual.ensures.1 refl

pub returns : goal.returns
unfolding left_edge
returns g c = finished _ _ _ _ c.in_ok-write_fill.ensures c.write_bar.ensures refl
