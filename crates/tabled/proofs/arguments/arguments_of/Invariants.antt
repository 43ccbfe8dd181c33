use Rattle.tabled.proofs.Names.{length, map, string_bytes}
use Rattle.tabled.proofs.Noting.{ReadsTo}
use Rattle.tabled.proofs.arguments.arguments_of.Given as goal

abbrev pub invariant-loop-rest : goal.invariant-loop-rest
invariant-loop-rest l = ReadsTo (map string_bytes l.words) l.settings (map string_bytes l.rest)

abbrev pub decreases-loop-rest : goal.decreases-loop-rest
decreases-loop-rest l = length l.rest
