-- The widths and heights that the cells of a table need.
use Rattle.std.specs.Prelude.{◌≡◌, ℕ, ◌+◌, ◌<◌, ◌≤◌, ◌^◌, ◌⊎◌, List, length, map, max}
use Rattle.std.specs.List.{range_with_len, slice_index}
use Rattle.tabled_text.specs.Measure.{greatest, lines_of, text_columns}
use Rattle.tabled_base.specs.Cells.{cell_at, columns}
use Rattle.tabled_config.specs.declared.spanned.SpannedConfig.{SpannedConfig}
use Rattle.tabled_config.specs.Settings.{style_at}

-- the width that a cell needs: its text, and its padding on the left and right
abbrev pub needed_width : List (List (List ℕ)) → SpannedConfig → ℕ → ℕ → ℕ
needed_width cells config row column =
    let padding = (style_at config row column).padding in
    text_columns (cell_at cells row column) + (padding.left.size + padding.right.size)

-- the height that a cell needs: its text, and its padding at the top and bottom
abbrev pub needed_height : List (List (List ℕ)) → SpannedConfig → ℕ → ℕ → ℕ
needed_height cells config row column =
    let padding = (style_at config row column).padding in
    length (lines_of (cell_at cells row column)) + (padding.top.size + padding.bottom.size)

-- the widths, raised to what the cells of a row need
abbrev pub raised : List ℕ → List (List (List ℕ)) → SpannedConfig → ℕ → List ℕ
raised widths cells config row =
    map (λ c. max (slice_index widths c) (needed_width cells config row c)) (range_with_len 0 (columns cells))

-- the greatest width that a cell of a column needs
unfoldable pub column_width : List (List (List ℕ)) → SpannedConfig → ℕ → ℕ
column_width cells config column =
    greatest (map (λ row. needed_width cells config row column) (range_with_len 0 (length cells)))

-- the greatest height that a cell of a row needs
unfoldable pub row_height : List (List (List ℕ)) → SpannedConfig → ℕ → ℕ
row_height cells config row =
    greatest (map (needed_height cells config row) (range_with_len 0 (columns cells)))

unfoldable pub estimated_widths : List (List (List ℕ)) → SpannedConfig → List ℕ
estimated_widths cells config = map (column_width cells config) (range_with_len 0 (columns cells))

unfoldable pub estimated_heights : List (List (List ℕ)) → SpannedConfig → List ℕ
estimated_heights cells config = map (row_height cells config) (range_with_len 0 (length cells))

-- a cell needs more than `usize::MAX` columns
pub record IsTooWide (cells : List (List (List ℕ))) (config : SpannedConfig) : Type 0 where
  pub row : ℕ
  pub column : ℕ
  pub row_in : row < length cells
  pub column_in : column < columns cells
  pub out_of_range : 2 ^ 64 ≤ needed_width cells config row column

-- a cell needs more than `usize::MAX` lines
pub record IsTooHigh (cells : List (List (List ℕ))) (config : SpannedConfig) : Type 0 where
  pub row : ℕ
  pub column : ℕ
  pub row_in : row < length cells
  pub column_in : column < columns cells
  pub out_of_range : 2 ^ 64 ≤ needed_height cells config row column

-- a cell needs more than `usize::MAX` columns or lines
abbrev pub IsTooLarge : List (List (List ℕ)) → SpannedConfig → Type 0
IsTooLarge cells config = IsTooWide cells config ⊎ IsTooHigh cells config

-- widths are raised to what the cells of a row need, and that is its height
pub record IsMeasured (cells : List (List (List ℕ))) (config : SpannedConfig) (row : ℕ) (old new : List ℕ) (height : ℕ) : Type 0 where
  pub widths : new ≡ raised old cells config row
  pub tall : height ≡ row_height cells config row
