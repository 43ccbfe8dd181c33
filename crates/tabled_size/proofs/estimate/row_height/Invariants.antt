use Rattle.tabled_size.proofs.Names.{needed_height, ◌≡◌}
use Rattle.tabled_size.proofs.Greatest.{greatest_below}
use Rattle.tabled_size.proofs.estimate.row_height.Given as goal

abbrev pub invariant-columns : goal.invariant-columns
invariant-columns g l = l.most ≡ greatest_below (needed_height (g.R.ExactRecords.cells l.records) l.config l.row) l.column
