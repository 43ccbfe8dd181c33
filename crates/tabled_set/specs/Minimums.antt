-- The minimum widths of columns, which they have with empty cells.
use Rattle.std.specs.Prelude.{ℕ, ◌+◌, List, [], length, replicate, Option, Some, None, is_some, if◌then◌else◌}
use Rattle.tabled_set.specs.Common.{columns, estimated_widths, SpannedConfig}
use Rattle.tabled_config.specs.Settings.{style_at}
use Rattle.tabled_entity.specs.Changes.{shared}
use Rattle.tabled_config.specs.declared.sides.Indent.{Indent}
use Rattle.tabled_config.specs.declared.sides.Sides.{Sides}

-- as many rows and columns of cells without text
abbrev pub emptied : List (List (List ℕ)) → List (List (List ℕ))
emptied cells = replicate (length cells) (replicate (columns cells) [])

-- the estimated widths of empty cells, which are padding only
abbrev pub minimums : List (List (List ℕ)) → SpannedConfig → List ℕ
minimums cells config = estimated_widths (emptied cells) config

-- the left and right padding, in columns, or 0 if there is none
abbrev pub side_columns : Option (Sides Indent) → ℕ
side_columns None = 0
side_columns (Some padding) = padding.left.size + padding.right.size

-- that of a cell
abbrev pub side_padding : SpannedConfig → ℕ → ℕ → ℕ
side_padding config row column = side_columns (Some (style_at config row column).padding)

-- that of a cell, or 0 if all cells have the same
abbrev pub own_padding : SpannedConfig → ℕ → ℕ → ℕ
own_padding config row column = if is_some (shared config.padding) then 0 else side_padding config row column
