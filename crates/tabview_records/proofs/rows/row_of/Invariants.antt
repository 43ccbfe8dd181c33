use Rattle.std.proofs.Common.{[], ◌≡◌, get_or, map, string_bytes, take}
use Rattle.tabview_records.proofs.rows.row_of.Given as goal

abbrev pub invariant-loop-column : goal.invariant-loop-column
invariant-loop-column l = map string_bytes l.cells.items ≡ take l.column (get_or l.records l.row [])
