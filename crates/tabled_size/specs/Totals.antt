-- The total width and height of a table.
use Rattle.std.specs.Prelude.{◌≡◌, ℕ, ◌+◌, ◌-◌, ◌*◌, ◌^◌, ◌≤◌, if◌then◌else◌, List, MatchOption, Option, is_some, length}
use Rattle.std.specs.List.{slice_index}
use Rattle.tabled_base.specs.Cells.{columns}
use Rattle.tabled_config.specs.declared.spanned.SpannedConfig.{SpannedConfig}
use Rattle.tabled_config.specs.Settings.{frame, rule_at}
use Rattle.tabled_priority.specs.Sums.{one_if, sum_below}
use Rattle.tabled_size.specs.Sheet.{Sheet, is_empty}

-- a total, or nothing if it exceeds the greatest `usize`
abbrev pub IsTotal : ℕ → Option ℕ → Type 0
IsTotal whole result = MatchOption result (2 ^ 64 ≤ whole) (λ n. n ≡ whole)

-- the total width, given the sum of all widths: the sum, the vertical lines, and the margin on the
-- left and right
unfoldable pub framed_width : SpannedConfig → ℕ → ℕ → ℕ
framed_width config columns inside =
    let f = frame config in
    (f.margin.left.size + one_if f.left.there)
    + ((inside + (columns - 1) * one_if f.inner.there) + (one_if f.right.there + f.margin.right.size))

-- the total width, given the widths: the widths, the vertical lines, and the margin on the left and
-- right
unfoldable pub filled_width : SpannedConfig → ℕ → List ℕ → ℕ
filled_width config count widths =
    let f = frame config in
    (f.margin.left.size + one_if f.left.there)
    + ((sum_below (slice_index widths) count + (count - 1) * one_if f.inner.there)
    + (one_if f.right.there + f.margin.right.size))

-- the number of horizontal lines, 0 or 1, above row i or below the last row
abbrev pub rules_at : SpannedConfig → ℕ → ℕ → ℕ
rules_at config rows i = one_if (is_some (rule_at config rows i))

-- the height of a row and of the horizontal line above it
unfoldable pub part_height : SpannedConfig → ℕ → List ℕ → ℕ → ℕ
part_height config rows heights row = rules_at config rows row + slice_index heights row

-- the total height, given the sum of all heights and of the lines above the rows: the sum, the last
-- line, and the margin at the top and bottom
unfoldable pub framed_height : SpannedConfig → ℕ → ℕ → ℕ
framed_height config rows inside =
    (frame config).margin.top.size + (inside + (rules_at config rows rows + (frame config).margin.bottom.size))

-- the total height, given the heights: the heights, the horizontal lines, and the margin at the top
-- and bottom
unfoldable pub filled_height : SpannedConfig → ℕ → List ℕ → ℕ
filled_height config rows heights =
    (frame config).margin.top.size
    + (sum_below (part_height config rows heights) rows + (rules_at config rows rows + (frame config).margin.bottom.size))

-- the total width, 0 without rows or columns
abbrev pub total_width : Sheet → ℕ
total_width t = if is_empty t.cells then 0 else filled_width t.config (columns t.cells) t.widths

-- the total height, 0 without rows or columns
abbrev pub total_height : Sheet → ℕ
total_height t = if is_empty t.cells then 0 else filled_height t.config (length t.cells) t.heights
