use Rattle.tabled_size.proofs.Names.{added_at, map, range_with_len, ◌≡◌}
use Rattle.tabled_size.proofs.added_padding.list_row.Given as goal

abbrev pub invariant-columns : goal.invariant-columns
invariant-columns l = l.extents.items ≡ map (added_at l.config l.row) (range_with_len 0 l.column)
