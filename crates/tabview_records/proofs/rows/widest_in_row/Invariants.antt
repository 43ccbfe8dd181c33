use Rattle.std.proofs.Common.{[], ◌≡◌, drop, get_or, max}
use Rattle.tabview_records.specs.Records.{widest}
use Rattle.tabview_records.proofs.rows.widest_in_row.Given as goal

abbrev pub invariant-loop-column : goal.invariant-loop-column
invariant-loop-column l = max l.most (widest (drop l.column (get_or l.records l.row []))) ≡ widest (get_or l.records l.row [])
