use Rattle.tabled_priority.proofs.Names.{MatchOption, at, counted, ◌≡◌}
use Rattle.tabled_priority.proofs.BestPlace.{NoneAboveBelow, IsBestBelow}
use Rattle.tabled_priority.proofs.choice.Choice.chosen.Given as goal

abbrev pub invariant-loop-place : goal.invariant-loop-place
invariant-loop-place l = record {
  best : MatchOption l.best (NoneAboveBelow l.values l.mins l.place)
      (λ b. IsBestBelow l.self l.values l.mins l.place b × (l.size ≡ at l.values b));
  steps : l.steps.count ≡ counted l.fn.steps.count l.place;
}
