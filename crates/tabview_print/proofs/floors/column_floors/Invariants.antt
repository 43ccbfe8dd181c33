use Rattle.std.proofs.Common.{◌≡◌, map}
use Rattle.std.specs.List.{range_with_len}
use Rattle.tabled_size.specs.Sheet.{estimated}
use Rattle.tabview_print.specs.Floors.{floor_of}
use Rattle.tabview_print.proofs.floors.column_floors.Given as goal

abbrev pub invariant-loop-column : goal.invariant-loop-column
invariant-loop-column g l =
    l.floors.items ≡ map (floor_of l.fit.columns.now l.fit.has_header (estimated (g.R.ExactRecords.cells l.records) l.config)) (range_with_len 0 l.column)
