use Rattle.tabled_text.proofs.Names.{length}
use Rattle.tabled_text.proofs.CutText.{AreTaken}
use Rattle.tabled_text.proofs.cut.cut_letters.Given as goal

abbrev pub invariant-letters : goal.invariant-letters
invariant-letters l = AreTaken l.n l.text l.rest l.columns

abbrev pub decreases-letters : goal.decreases-letters
decreases-letters l = length l.rest
