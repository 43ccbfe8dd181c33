use Rattle.tabled_priority.proofs.Between.{round_even}
use Rattle.tabled_priority.proofs.Visiting.{shrinking}
use Rattle.tabled_priority.proofs.priority.PriorityNonePeaker.shrink.Goals as goal

pub returns-clause-shrinking : goal.returns-clause-shrinking
returns-clause-shrinking c =
    let change = c.change_columns-change.ensures in shrinking _ _ _ _ _ _ _ change.changed.takes change.amount change.visits

pub returns-clause-even : goal.returns-clause-even
returns-clause-even c = round_even _ _ _ _ _ _ c.change_columns-change.ensures.changed
