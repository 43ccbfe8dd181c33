-- Where a cell needs more than a number can say, so does the whole.
use Rattle.tabled_size.proofs.Names.{Extent, List, None, Option, Some, SpannedConfig, added_at, arith, column_width, columns}
use Rattle.tabled_size.proofs.Names.{estimated_heights, estimated_widths, filled_height, filled_width, get_or-map-range_with_len, inl, inr}
use Rattle.tabled_size.proofs.Names.{length, needed_height, needed_width, part_height, row_height, slice_index, subst, sum_below, sum_step}
use Rattle.tabled_size.proofs.Names.{ℕ, ⊎_elim, ◌+◌, ◌<◌, ◌^◌, ◌≡◌, ◌≤◌, ◌⊎◌}
use Rattle.std.proofs.Common.{IfNone}
use Rattle.tabled_size.specs.Added.{PassesRange}
use Rattle.tabled_size.specs.Estimates.{IsTooHigh, IsTooWide}
use Rattle.tabled_size.proofs.Greatest.{greatest_ge}

-- the estimated width of a column, and what its cells need
pub width_at : (cells : List (List (List ℕ))) (config : SpannedConfig) (column : ℕ) → column < columns cells
    → slice_index (estimated_widths cells config) column ≡ column_width cells config column
unfolding estimated_widths
width_at cells config column h = get_or-map-range_with_len (column_width cells config) 0 (columns cells) column column 0 h (omega arith)

pub height_at : (cells : List (List (List ℕ))) (config : SpannedConfig) (row : ℕ) → row < length cells
    → slice_index (estimated_heights cells config) row ≡ row_height cells config row
unfolding estimated_heights
height_at cells config row h = get_or-map-range_with_len (row_height cells config) 0 (length cells) row row 0 h (omega arith)

pub width_ge : (cells : List (List (List ℕ))) (config : SpannedConfig) (row column : ℕ) → row < length cells
    → needed_width cells config row column ≤ column_width cells config column
unfolding column_width
width_ge cells config row column h = greatest_ge (λ r. needed_width cells config r column) (length cells) row h

pub height_ge : (cells : List (List (List ℕ))) (config : SpannedConfig) (row column : ℕ) → column < columns cells
    → needed_height cells config row column ≤ row_height cells config row
unfolding row_height
height_ge cells config row column h = greatest_ge (needed_height cells config row) (columns cells) column h

part_ge : (config : SpannedConfig) (rows : ℕ) (heights : List ℕ) (row : ℕ) → slice_index heights row ≤ part_height config rows heights row
unfolding part_height
part_ge config rows heights row = omega arith

-- a too wide cell makes the whole too wide
pub too_wide_passes : (cells : List (List (List ℕ))) (config : SpannedConfig) → IsTooWide cells config
    → 2 ^ 64 ≤ filled_width config (columns cells) (estimated_widths cells config)
unfolding filled_width
too_wide_passes cells config h =
    let f = slice_index (estimated_widths cells config) in
    let at : f h.column ≡ column_width cells config h.column = width_at cells config h.column h.column_in in
    let needs : needed_width cells config h.row h.column ≤ column_width cells config h.column = width_ge cells config h.row h.column h.row_in in
    let part : sum_below f h.column + f h.column ≤ sum_below f (columns cells) = sum_step f h.column (columns cells) h.column_in in
    let passes : 2 ^ 64 ≤ needed_width cells config h.row h.column = h.out_of_range in
    omega arith

-- a too high cell makes the whole too high
pub too_high_passes : (cells : List (List (List ℕ))) (config : SpannedConfig) → IsTooHigh cells config
    → 2 ^ 64 ≤ filled_height config (length cells) (estimated_heights cells config)
unfolding filled_height
too_high_passes cells config h =
    let heights = estimated_heights cells config in
    let f = part_height config (length cells) heights in
    let at : slice_index heights h.row ≡ row_height cells config h.row = height_at cells config h.row h.row_in in
    let needs : needed_height cells config h.row h.column ≤ row_height cells config h.row = height_ge cells config h.row h.column h.column_in in
    let row : slice_index heights h.row ≤ f h.row = part_ge config (length cells) heights h.row in
    let part : sum_below f h.row + f h.row ≤ sum_below f (length cells) = sum_step f h.row (length cells) h.row_in in
    let passes : 2 ^ 64 ≤ needed_height cells config h.row h.column = h.out_of_range in
    omega arith

-- where padding adds more than numbers can say, its cell is too wide or too high
pub added_passes : (cells : List (List (List ℕ))) (config : SpannedConfig) (row column : ℕ) (extent : Extent)
    → extent ≡ added_at config row column → row < length cells → column < columns cells
    → PassesRange extent → IsTooWide cells config ⊎ IsTooHigh cells config
added_passes cells config row column extent same row_in column_in passes =
    ⊎_elim
    (λ (wide : 2 ^ 64 ≤ (added_at config row column).columns). inl (record { row = row; column = column; row_in = row_in; column_in = column_in; out_of_range = omega arith }))
    (λ (high : 2 ^ 64 ≤ (added_at config row column).lines). inr (record { row = row; column = column; row_in = row_in; column_in = column_in; out_of_range = omega arith }))
    (subst PassesRange same passes)

-- what holds also holds where a result is none
pub if_none : {T : Type 0} {P : Type 0} (r : Option T) → P → IfNone r P
if_none None p = p
if_none (Some x) p = tt
