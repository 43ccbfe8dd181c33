use Rattle.tabled_compact.proofs.Names.{sum_below, ◌≡◌}
use Rattle.tabled_compact.proofs.sizes.sum_widths.Given as goal

abbrev pub invariant-columns : goal.invariant-columns
invariant-columns g l = l.total ≡ sum_below (g.C.TableColumns.sheet l.columns).width l.column
