use Rattle.tabled_grid.proofs.Names.{IsPlaceable, cell_placement, columns_in, length, map, range_with_len, reached}
use Rattle.tabled_grid.proofs.Names.{slice_index, style_at, take, ℕ, ◌<◌, ◌≡◌}
use Rattle.tabled_grid.proofs.column_styles.placements_in.Given as goal

abbrev pub invariant-columns : goal.invariant-columns
invariant-columns g l =
    let count = length l.initial.buffer in
    let widths = slice_index (reached (g.D.Dimension.width_at l.dimension) count) in
    record {
      same : length l.buffer ≡ count;
      listed : take l.column l.buffer ≡ map (cell_placement (style_at l.config l.row) (columns_in l.config widths count)) (range_with_len 0 l.column);
      placeable : (k : ℕ) → k < l.column → IsPlaceable (style_at l.config l.row k) (widths k);
    }
