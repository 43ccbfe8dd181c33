use Rattle.tabled_set.proofs.Names.{map, picked, range_with_len, ◌≡◌}
use Rattle.tabled_set.specs.Extremes.{picked_in_row}
use Rattle.tabled_set.proofs.measurement.picked_of_rows.Given as goal

abbrev pub invariant-rows : goal.invariant-rows
invariant-rows g l =
    l.best ≡ picked l.across (map (picked_in_row l.within l.extent (g.R.ExactRecords.cells l.records)) (range_with_len 0 l.row))
