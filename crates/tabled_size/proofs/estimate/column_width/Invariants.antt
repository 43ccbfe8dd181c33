use Rattle.tabled_size.proofs.Names.{needed_width, ◌≡◌}
use Rattle.tabled_size.proofs.Greatest.{greatest_below}
use Rattle.tabled_size.proofs.estimate.column_width.Given as goal

abbrev pub invariant-rows : goal.invariant-rows
invariant-rows g l =
    l.most ≡ greatest_below (λ row. needed_width (g.R.ExactRecords.cells l.records) l.config row l.column) l.row
