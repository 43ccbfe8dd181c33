use Rattle.tabled_table.proofs.Names.{[], content_at, length, map, slice_index_or, ℕ, ◌<◌, ◌≡◌}
use Rattle.tabled_table.specs.Stream.Marked.{IsMarked}
use Rattle.tabled_table.proofs.iter_table.marked.mark_cells.Given as goal

abbrev pub invariant-cells : goal.invariant-cells
invariant-cells g l = record {
  as_many : length l.cut.items ≡ l.column;
  each : (k : ℕ) → k < l.column
      → IsMarked l.mark (content_at l.layout k) (slice_index_or (map g.C.CellText.text l.cells) k []) (slice_index_or l.cut.items k []);
}
