use Rattle.tabled_pool.proofs.Names.{plan_of}
use Rattle.tabled_pool.specs.TallTexts.{AreTall}
use Rattle.tabled_pool.proofs.sweep.Sweep.mark_line.Given as goal

abbrev pub invariant-pieces : goal.invariant-pieces
invariant-pieces l =
    AreTall (plan_of l.drawing) l.y l.initial.self.texts → AreTall (plan_of l.drawing) l.y l.self.texts

abbrev pub decreases-pieces : goal.decreases-pieces
decreases-pieces l = l.number
