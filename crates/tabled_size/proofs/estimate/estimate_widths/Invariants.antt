use Rattle.tabled_size.proofs.Names.{column_width, map, range_with_len, ◌≡◌}
use Rattle.tabled_size.proofs.estimate.estimate_widths.Given as goal

abbrev pub invariant-columns : goal.invariant-columns
invariant-columns g l =
    l.widths.items ≡ map (column_width (g.R.ExactRecords.cells l.records) l.config) (range_with_len 0 l.column)
