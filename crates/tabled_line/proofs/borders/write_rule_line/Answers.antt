use Rattle.tabled_line.proofs.Names.{append_assoc, refl, rule_line}
use Rattle.tabled_line.proofs.Sending.{further, finished, stopped, stopped-first}
use Rattle.tabled_line.proofs.borders.write_rule_line.Goals as goal

pub returns-in_err-write_left_edge : goal.returns-in_err-write_left_edge
unfolding rule_line
returns-in_err-write_left_edge g c =
    stopped-first _ _ _ (rw (c.frame-frame.ensures, c.unwrap_or.ensures) at c.in_err-write_left_edge.ensures) c.from_residual.ensures.1 refl

pub returns-in_err-write_rule_pieces : goal.returns-in_err-write_rule_pieces
unfolding rule_line
returns-in_err-write_rule_pieces g c =
    stopped _ _ _ (rw (c.frame-frame.ensures, c.unwrap_or.ensures) at c.in_ok-write_left_edge.ensures) c.in_err-write_rule_pieces.ensures
    c.from_residual-in_err-write_rule_pieces.ensures.1 refl

pub returns : goal.returns
unfolding rule_line
returns g c =
    finished _ _ _ _ (further c.in_ok-write_left_edge.ensures c.in_ok-write_rule_pieces.ensures refl) c.write_right_edge.ensures
    (rw (c.frame-frame.ensures, c.unwrap_or.ensures, c.unwrap_or-2.ensures, append_assoc) refl)
