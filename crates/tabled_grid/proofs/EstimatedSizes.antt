-- Tables with estimated sizes: they hold their cells, so that the range alone can refuse them.
use Rattle.tabled_grid.proofs.Names.{Holds, FailsToPrint, IsOutOfRange, IsSized, List, Memory, Narrow, Range, ShortHeights, ShortWidths}
use Rattle.tabled_grid.proofs.Names.{SpannedConfig, TableError, Writer, arith, columns, estimated, estimated_heights, estimated_widths, inl}
use Rattle.tabled_grid.proofs.Names.{inr, length, length-map-range_with_len, refl, too_high_passes, too_wide_passes, width_at, width_ge, ℕ}
use Rattle.tabled_grid.proofs.Names.{◌≡◌}
use Rattle.tabled_size.specs.Estimates.{IsTooHigh, IsTooWide, column_width, row_height}

-- the estimated sizes reach to the last column and the last row
pub sized_estimated : (cells : List (List (List ℕ))) (config : SpannedConfig) → IsSized (estimated cells config)
unfolding estimated_widths estimated_heights
sized_estimated cells config = record {
  columns = omega (arith, length-map-range_with_len (column_width cells config) 0 (columns cells));
  rows = omega (arith, length-map-range_with_len (row_height cells config) 0 (length cells));
}

-- and hold every cell
pub holds_estimated : (cells : List (List (List ℕ))) (config : SpannedConfig) → Holds (estimated cells config)
holds_estimated cells config row column r c = rw (width_at cells config column c) (width_ge cells config row column r)

-- so that a table with them is refused for the range alone
pub refused_estimated : (cells : List (List (List ℕ))) (config : SpannedConfig) (e : TableError) → FailsToPrint (estimated cells config) e → (e ≡ Range) × IsOutOfRange (estimated cells config)
refused_estimated cells config Memory h = absurd h
refused_estimated cells config Writer h = absurd h
refused_estimated cells config ShortWidths h = let sized = (sized_estimated cells config).columns in absurd (omega arith)
refused_estimated cells config ShortHeights h = let sized = (sized_estimated cells config).rows in let short = h.1 in absurd (omega arith)
refused_estimated cells config (Narrow row column) h =
    let first = h.1 in
    let narrow = first.at.narrow in
    let held = holds_estimated cells config row column first.row_in first.at.column_in in
    absurd (omega arith)
refused_estimated cells config Range h = (refl, h.2)

-- a cell that needs more columns than a number can say makes the total width pass
pub passes_too_wide : (cells : List (List (List ℕ))) (config : SpannedConfig) → IsTooWide cells config → IsOutOfRange (estimated cells config)
passes_too_wide cells config h = inl (too_wide_passes cells config h)

-- a cell that needs more lines than a number can say makes the total height pass
pub passes_too_high : (cells : List (List (List ℕ))) (config : SpannedConfig) → IsTooHigh cells config → IsOutOfRange (estimated cells config)
passes_too_high cells config h = inr (too_high_passes cells config h)
