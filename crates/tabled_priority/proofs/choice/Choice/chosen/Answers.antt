use Rattle.tabled_priority.proofs.BestPlace.{answer}
use Rattle.tabled_priority.proofs.choice.Choice.chosen.Goals as goal

pub returns-clause-answer : goal.returns-clause-answer
returns-clause-answer c = answer _ _ _ _ c.loop-place.size _ c.loop-place-test.false c.loop-place.invariant.best
