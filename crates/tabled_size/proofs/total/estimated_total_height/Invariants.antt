use Rattle.tabled_size.proofs.Names.{estimated_heights, length, part_height, sum_below, ◌≡◌}
use Rattle.tabled_size.proofs.total.estimated_total_height.Given as goal

abbrev pub invariant-rows : goal.invariant-rows
invariant-rows g l =
    let cells = g.R.ExactRecords.cells l.records in
    l.total ≡ sum_below (part_height l.config (length cells) (estimated_heights cells l.config)) l.row
