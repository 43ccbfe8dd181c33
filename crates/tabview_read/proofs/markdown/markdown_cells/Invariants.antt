use Rattle.std.proofs.Common.{◌≡◌, map, take}
use Rattle.csv.specs.Records.{fields_of}
use Rattle.tabview_read.specs.MarkedCells.{markdown}
use Rattle.tabview_read.proofs.markdown.markdown_cells.Given as goal

abbrev pub invariant-loop-column : goal.invariant-loop-column
invariant-loop-column l = fields_of l.out ≡ map markdown (take l.column (fields_of l.cells))
