use Rattle.std.proofs.Common.{◌≡◌, map, string_bytes, take}
use Rattle.csv.specs.Records.{fields_of}
use Rattle.tabview_cells.specs.Choice.{shown_cell}
use Rattle.tabview_cells.proofs.choice.chosen_cells.Given as goal

abbrev pub invariant-loop-column : goal.invariant-loop-column
invariant-loop-column l =
    map string_bytes l.cells.items ≡ map (shown_cell l.shown (fields_of l.row)) (take l.column-index l.columns)
