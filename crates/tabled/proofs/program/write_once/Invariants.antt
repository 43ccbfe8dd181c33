use Rattle.tabled.proofs.Names.{IsPartlyWritten, length}
use Rattle.tabled.proofs.program.write_once.Given as goal

abbrev pub invariant-taken : goal.invariant-taken
invariant-taken g l = IsPartlyWritten (g.W.Write.contents l.initial.writer) (g.W.Write.contents l.writer) l.text l.rest

abbrev pub decreases-taken : goal.decreases-taken
decreases-taken g l = length l.rest
