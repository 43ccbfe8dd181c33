use Rattle.tabled_pool.proofs.Names.{plan_of}
use Rattle.tabled_pool.proofs.sweep.Sweep.new.Goals as goal

pub returns : goal.returns
returns c = c.mark_line.ensures (c.new-2.ensures (plan_of c.args.drawing.now) 0)
