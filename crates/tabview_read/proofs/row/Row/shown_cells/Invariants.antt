use Rattle.std.proofs.Common.{◌≡◌, map}
use Rattle.std.specs.List.{range_with_len}
use Rattle.csv.specs.Records.{fields_of}
use Rattle.tabview_read.specs.Shown.{cell_or}
use Rattle.tabview_read.proofs.row.Row.shown_cells.Given as goal

abbrev pub invariant-loop-column : goal.invariant-loop-column
invariant-loop-column l = fields_of l.cells ≡ map (cell_or l.null l.self) (range_with_len 0 l.column)
