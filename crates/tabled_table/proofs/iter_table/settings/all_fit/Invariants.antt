use Rattle.tabled_table.proofs.Names.{IsCut, [], content_at, map, slice_index_or, ℕ, ◌<◌}
use Rattle.tabled_table.proofs.iter_table.settings.all_fit.Given as goal

abbrev pub invariant-cells : goal.invariant-cells
invariant-cells g l =
    (k : ℕ) → k < l.column
    → IsCut (content_at l.layout k) (slice_index_or (map g.C.CellText.text l.cells) k []) (slice_index_or (map g.C.CellText.text l.cells) k [])
