-- The text in a line of a cell, with the spaces around it.
use Rattle.std.specs.Prelude.{◌≡◌, ◌+◌, ℕ, List, ◌++◌}
use Rattle.tabled_line.specs.Fill.{fill}
use Rattle.tabled_line.specs.Row.{RowSheet, block_line}
use Rattle.tabled_line.specs.declared.placement.PlacedText.{PlacedText}

-- a line is the text between spaces, and together they fill the width
pub record IsSpacedLine (line : List ℕ) (width : ℕ) (placed : PlacedText) : Type 0 where
  pub line_is : line ≡ fill 32 placed.before ++ (placed.text.now ++ fill 32 placed.behind)
  pub whole : placed.before + (placed.columns + placed.behind) ≡ width

-- line `index` of a cell is the text between spaces
abbrev pub IsPlacedText : RowSheet → ℕ → ℕ → PlacedText → Type 0
IsPlacedText row index column placed = IsSpacedLine (block_line row index column) (row.columns.width column) placed
