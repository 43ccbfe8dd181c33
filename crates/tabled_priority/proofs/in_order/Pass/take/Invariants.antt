use Rattle.tabled_priority.proofs.Names.{counted, ◌≡◌}
use Rattle.tabled_priority.proofs.Passes.{Midway}
use Rattle.tabled_priority.proofs.in_order.Pass.take.Given as goal

abbrev pub invariant-loop-turn : goal.invariant-loop-turn
invariant-loop-turn l = record {
  midway : Midway l.self.right l.self.sizes l.fn.values l.mins l.by l.turn l.values l.left;
  steps : l.steps.count ≡ counted l.fn.steps.count l.turn;
}
