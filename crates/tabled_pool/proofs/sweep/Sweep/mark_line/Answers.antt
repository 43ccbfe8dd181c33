use Rattle.tabled_pool.proofs.sweep.Sweep.mark_line.Goals as goal

pub pieces-preserved : goal.pieces-preserved
pieces-preserved c = λ all. c.begin.ensures (c.pieces.invariant all)

pub returns-then-piece-number : goal.returns-then-piece-number
returns-then-piece-number c = λ all. c.begin.ensures (c.pieces.invariant all)

pub returns : goal.returns
returns c = λ all. c.pieces.invariant all
