use Rattle.std.proofs.Common.{◌≡◌, map, take}
use Rattle.csv.specs.Records.{fields_of}
use Rattle.tabview_cells.specs.Choice.{counting_cell}
use Rattle.tabview_cells.specs.Kinds.{joined_kinds}
use Rattle.tabview_cells.proofs.choice.join_kinds.Given as goal

abbrev pub invariant-loop-index : goal.invariant-loop-index
invariant-loop-index l =
    l.kinds ≡ joined_kinds l.initial.kinds (map (counting_cell l.blank (fields_of l.row)) (take l.index l.columns))
