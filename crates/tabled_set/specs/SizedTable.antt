-- A table with its stored sizes.
use Rattle.std.specs.Prelude.{ℕ, List}
use Rattle.tabled_set.specs.Common.{CompleteDimension, Sheet, SpannedConfig, effective}

pub record SizedTable : Type 0 where
  pub cells : List (List (List ℕ))
  pub config : SpannedConfig
  pub sizes : CompleteDimension

abbrev pub sized_table : List (List (List ℕ)) → SpannedConfig → CompleteDimension → SizedTable
sized_table cells config sizes = record { cells = cells; config = config; sizes = sizes }

-- the same table with its effective sizes
abbrev pub sheet_of : SizedTable → Sheet
sheet_of table = effective table.cells table.config table.sizes
