use Rattle.tabled_table.proofs.Names.{sum_below, width_at, ◌≡◌}
use Rattle.tabled_table.proofs.iter_table.layout.Layout.sum_widths.Given as goal

abbrev pub invariant-columns : goal.invariant-columns
invariant-columns l = l.sum ≡ sum_below (width_at l.self) l.column
