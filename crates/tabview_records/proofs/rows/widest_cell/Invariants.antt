use Rattle.std.proofs.Common.{◌≡◌, ◌+◌, drop, max}
use Rattle.tabview_records.specs.Records.{widest_cell}
use Rattle.tabview_records.proofs.rows.widest_cell.Given as goal

abbrev pub invariant-loop-index : goal.invariant-loop-index
invariant-loop-index l = max l.most (widest_cell (drop (l.first + l.index) l.records)) ≡ widest_cell (drop l.first l.records)
