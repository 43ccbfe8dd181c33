use Rattle.tabled_extended.proofs.Names.{IsTruncated}
use Rattle.tabled_extended.proofs.Stopped.{ChangedSoFar}
use Rattle.tabled_extended.proofs.truncating.truncate_row.Given as goal

abbrev pub invariant-texts : goal.invariant-texts
invariant-texts l = ChangedSoFar (IsTruncated l.suffix l.width_limit) l.index l.initial.row.items l.row.items
