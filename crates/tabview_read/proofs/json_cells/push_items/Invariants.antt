use Rattle.std.proofs.Common.{Some, map, take}
use Rattle.json.specs.Value.{value_view}
use Rattle.tabview_read.specs.Cells.{AddsCells}
use Rattle.tabview_read.proofs.json_cells.push_items.Given as goal

abbrev pub invariant-loop-item : goal.invariant-loop-item
invariant-loop-item l = AddsCells (map (λ v. Some (value_view v)) (take l.item-index l.items)) l.initial.row l.row
