-- A table with its effective sizes.
use Rattle.std.specs.Prelude.{ℕ, ◌==◌, ◌||◌, Bool, List, length}
use Rattle.tabled_base.specs.Cells.{columns}
use Rattle.tabled_config.specs.declared.spanned.SpannedConfig.{SpannedConfig}
use Rattle.tabled_size.specs.Estimates.{estimated_widths, estimated_heights}

pub record Sheet : Type 0 where
  pub cells : List (List (List ℕ))
  pub config : SpannedConfig
  pub widths : List ℕ
  pub heights : List ℕ

-- a table with estimated sizes
abbrev pub estimated : List (List (List ℕ)) → SpannedConfig → Sheet
estimated cells config = record {
  cells = cells;
  config = config;
  widths = estimated_widths cells config;
  heights = estimated_heights cells config;
}

-- there are no rows or no columns
abbrev pub is_empty : List (List (List ℕ)) → Bool
is_empty cells = (length cells == 0) || (columns cells == 0)
