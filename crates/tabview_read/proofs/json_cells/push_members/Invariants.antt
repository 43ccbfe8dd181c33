use Rattle.std.proofs.Common.{map, take}
use Rattle.csv.specs.Records.{fields_of}
use Rattle.json.specs.Find.{get}
use Rattle.json.specs.Value.{value_view}
use Rattle.tabview_read.specs.Cells.{AddsCells}
use Rattle.tabview_read.proofs.json_cells.push_members.Given as goal

abbrev pub invariant-loop-column : goal.invariant-loop-column
invariant-loop-column l = AddsCells (map (λ name. get name (value_view l.object)) (take l.column (fields_of l.names))) l.initial.row l.row
