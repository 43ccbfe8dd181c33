use Rattle.std.proofs.Common.{◌≡◌, map, take}
use Rattle.csv.specs.Records.{fields_of}
use Rattle.tabview_cells.specs.Choice.{shown_cell, with_texts}
use Rattle.tabview_cells.proofs.choice.push_chosen.Given as goal

abbrev pub invariant-loop-column : goal.invariant-loop-column
invariant-loop-column l =
    l.out ≡ with_texts l.initial.out (map (shown_cell l.shown (fields_of l.row)) (take l.column-index l.columns))
