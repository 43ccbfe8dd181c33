use Rattle.std.proofs.Common.{◌≡◌, map, take}
use Rattle.csv.specs.Records.{fields_of}
use Rattle.tabview_cells.specs.Choice.{cell_of, shown_cell, with_texts}
use Rattle.tabview_cells.specs.Kinds.{joined_kinds}
use Rattle.tabview_cells.specs.declared.choice.Shown.{Shown}
use Rattle.tabview_cells.proofs.choice.push_joining.Given as goal

abbrev pub invariant-loop-index : goal.invariant-loop-index
invariant-loop-index l = record {
  texts : (shown : Shown)
      → l.out ≡ with_texts l.initial.out (map (shown_cell shown (fields_of l.row)) (take l.index l.columns));
  kinds : l.kinds ≡ joined_kinds l.initial.kinds (map (cell_of (fields_of l.row)) (take l.index l.columns));
}
