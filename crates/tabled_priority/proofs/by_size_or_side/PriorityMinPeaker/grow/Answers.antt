use Rattle.tabled_priority.proofs.Optimal.{HasGreatestLeast-from_min}
use Rattle.tabled_priority.proofs.Visiting.{growing}
use Rattle.tabled_priority.proofs.by_size_or_side.PriorityMinPeaker.grow.Goals as goal

pub returns-clause-growing : goal.returns-clause-growing
returns-clause-growing c =
    let change = c.change_columns.ensures in growing _ _ _ _ _ _ change.changed.grows change.amount change.visits

pub returns-clause-least : goal.returns-clause-least
returns-clause-least c = HasGreatestLeast-from_min _ _ _ _ c.change_columns.ensures.changed
