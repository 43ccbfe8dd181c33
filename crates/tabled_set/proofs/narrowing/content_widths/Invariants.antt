use Rattle.tabled_set.proofs.Names.{None, length, permitted_width, side_columns, slice_index_or, ℕ, ◌<◌, ◌≡◌}
use Rattle.tabled_set.proofs.narrowing.content_widths.Given as goal

abbrev pub invariant-columns : goal.invariant-columns
invariant-columns l = record {
  long : length l.list.items ≡ l.column;
  listed : (i : ℕ) → i < l.column → slice_index_or l.list.items i None ≡ permitted_width l.widths l.mins (side_columns l.shared) i;
}
