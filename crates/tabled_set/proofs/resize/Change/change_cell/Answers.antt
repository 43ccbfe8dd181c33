use Rattle.tabled_set.proofs.Names.{subst}
use Rattle.std.specs.Str.{IsCharBoundary}
use Rattle.tabled_set.proofs.resize.Change.change_cell.Goals as goal

pub shorten-requires-then-len-le-SHORT_TEXT-clause-boundary : goal.shorten-requires-then-len-le-SHORT_TEXT-clause-boundary
shorten-requires-then-len-le-SHORT_TEXT-clause-boundary g c = subst (λ text. IsCharBoundary text 0) c.get_measured-columns.ensures.text c.starts.ensures
