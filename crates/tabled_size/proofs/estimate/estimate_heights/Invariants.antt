use Rattle.tabled_size.proofs.Names.{map, range_with_len, row_height, ◌≡◌}
use Rattle.tabled_size.proofs.estimate.estimate_heights.Given as goal

abbrev pub invariant-rows : goal.invariant-rows
invariant-rows g l =
    l.heights.items ≡ map (row_height (g.R.ExactRecords.cells l.records) l.config) (range_with_len 0 l.row)
