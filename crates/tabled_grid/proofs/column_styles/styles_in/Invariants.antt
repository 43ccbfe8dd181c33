use Rattle.tabled_grid.proofs.Names.{map, range_with_len, style_at, ◌≡◌}
use Rattle.tabled_grid.proofs.column_styles.styles_in.Given as goal

abbrev pub invariant-columns : goal.invariant-columns
invariant-columns l = l.styles.items ≡ map (style_at l.config l.row) (range_with_len 0 l.column)
