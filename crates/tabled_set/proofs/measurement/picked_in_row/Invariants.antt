use Rattle.tabled_set.proofs.Names.{cell_at, map, picked, range_with_len, ◌≡◌}
use Rattle.tabled_set.specs.Extremes.{extent_of}
use Rattle.tabled_set.proofs.measurement.picked_in_row.Given as goal

abbrev pub invariant-columns : goal.invariant-columns
invariant-columns g l =
    l.best ≡ picked l.within (map (λ column. extent_of l.extent (cell_at (g.R.ExactRecords.cells l.records) l.row column)) (range_with_len 0 l.column))
