use Rattle.std.proofs.Common.{List, length, map, ◌++◌, ◌≡◌}
use Rattle.std.specs.List.{All}
use Rattle.serde.specs.Event.{Event}
use Rattle.tabled_serde.specs.Errors.{IsNoKey}
use Rattle.tabled_serde.specs.Events.{event_of}
use Rattle.tabled_serde.proofs.event.last_key.Given as goal

abbrev pub invariant-steps : goal.invariant-steps
invariant-steps l = (after : List Event) × All IsNoKey after × (map event_of l.steps ≡ map event_of l.rest ++ after)

abbrev pub decreases-steps : goal.decreases-steps
decreases-steps l = length l.rest
