use Rattle.tabled_priority.proofs.Visiting.{growing}
use Rattle.tabled_priority.proofs.priority.PriorityNonePeaker.grow.Goals as goal

pub returns-clause-growing : goal.returns-clause-growing
returns-clause-growing c =
    let change = c.change_columns-change.ensures in growing _ _ _ _ _ _ change.changed.grows change.amount change.visits
