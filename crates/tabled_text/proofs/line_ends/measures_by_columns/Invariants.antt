use Rattle.tabled_text.proofs.Names.{length}
use Rattle.tabled_text.proofs.LetterMeasures.{IsMeasured}
use Rattle.tabled_text.proofs.line_ends.measures_by_columns.Given as goal

abbrev pub invariant-letters : goal.invariant-letters
invariant-letters l = IsMeasured l.n l.text l.rest l.widest l.count l.columns

abbrev pub decreases-letters : goal.decreases-letters
decreases-letters l = length l.rest
