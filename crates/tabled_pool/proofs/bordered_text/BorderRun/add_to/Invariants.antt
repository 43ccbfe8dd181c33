use Rattle.tabled_pool.proofs.Names.{drop, string_bytes}
use Rattle.tabled_pool.proofs.Splits.{RunFrom}
use Rattle.tabled_pool.proofs.bordered_text.BorderRun.add_to.Given as goal

abbrev pub invariant-loop-entry : goal.invariant-loop-entry
invariant-loop-entry l =
    RunFrom l.self.sizes.now l.self.width l.self.split l.self.main (string_bytes l.initial.line) (string_bytes l.line)
    (drop l.entry-index l.self.sizes.now) l.left l.rest
