use Rattle.tabled_pool.proofs.Names.{plan_of}
use Rattle.tabled_pool.proofs.sweep.Sweep.advance.Goals as goal

pub returns-then-is_ok : goal.returns-then-is_ok
returns-then-is_ok c = λ all. c.mark_line.ensures (c.advance.ensures (plan_of c.args.drawing.now) all)

pub returns-else-is_ok : goal.returns-else-is_ok
returns-else-is_ok c = λ all. c.advance.ensures (plan_of c.args.drawing.now) all
