use Rattle.tabled_priority.proofs.Optimal.{HasLeastGreatest-from_level, IsLevel-from_max}
use Rattle.tabled_priority.proofs.Visiting.{shrinking}
use Rattle.tabled_priority.proofs.by_size_or_side.PriorityMaxPeaker.shrink.Goals as goal

pub returns-clause-shrinking : goal.returns-clause-shrinking
returns-clause-shrinking c =
    let change = c.change_columns.ensures in shrinking _ _ _ _ _ _ _ change.changed.takes change.amount change.visits

pub returns-clause-level : goal.returns-clause-level
returns-clause-level c = IsLevel-from_max _ _ _ _ _ c.change_columns.ensures.changed

pub returns-clause-least : goal.returns-clause-least
returns-clause-least c = HasLeastGreatest-from_level _ _ _ (returns-clause-level c)
