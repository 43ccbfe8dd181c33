use Rattle.tabled_extended.proofs.Names.{AllZip, IsTruncated, row_texts}
use Rattle.tabled_extended.proofs.Stopped.{ChangedSoFar}
use Rattle.tabled_extended.proofs.truncating.truncate_rows.Given as goal

abbrev pub invariant-rows : goal.invariant-rows
invariant-rows l = ChangedSoFar (AllZip (IsTruncated l.suffix l.width_limit)) l.index (row_texts l.initial.rows.items) (row_texts l.rows.items)
