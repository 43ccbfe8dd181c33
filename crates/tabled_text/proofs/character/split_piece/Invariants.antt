use Rattle.tabled_text.proofs.Names.{length}
use Rattle.tabled_text.proofs.Pieces.{Taken}
use Rattle.tabled_text.proofs.character.split_piece.Given as goal

abbrev pub invariant-chars : goal.invariant-chars
invariant-chars l = Taken l.n l.text l.columns l.rest

abbrev pub decreases-chars : goal.decreases-chars
decreases-chars l = length l.rest
