use Rattle.tabled_text.proofs.Names.{length}
use Rattle.tabled_text.proofs.Pieces.{Taken}
use Rattle.tabled_text.proofs.line_ends.line_of_letters.Given as goal

abbrev pub invariant-letters : goal.invariant-letters
invariant-letters l = Taken l.n l.text l.columns l.rest

abbrev pub decreases-letters : goal.decreases-letters
decreases-letters l = length l.rest
