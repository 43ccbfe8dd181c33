use Rattle.tabled_line.proofs.Names.{indent, refl, right_edge}
use Rattle.tabled_line.proofs.Sending.{finished, stopped-first}
use Rattle.tabled_line.proofs.borders.write_right_edge.Goals as goal

pub returns-in_err-write_bar : goal.returns-in_err-write_bar
unfolding right_edge
returns-in_err-write_bar g c = stopped-first _ _ (indent c.args.frame.now.margin.right) c.in_err-write_bar.ensures c.from_residual.ensures.1 refl

pub returns : goal.returns
unfolding right_edge
returns g c = finished _ _ _ _ c.in_ok-write_bar.ensures c.write_fill.ensures refl
