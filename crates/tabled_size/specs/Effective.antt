-- A table with its effective sizes.
use Rattle.std.specs.Prelude.{ℕ, List, length, take, Option, Some, None}
use Rattle.tabled_base.specs.Cells.{columns}
use Rattle.tabled_config.specs.declared.spanned.SpannedConfig.{SpannedConfig}
use Rattle.tabled_size.specs.declared.complete_dimension.CompleteDimension.{CompleteDimension}
use Rattle.tabled_size.specs.Estimates.{estimated_heights, estimated_widths}
use Rattle.tabled_size.specs.Sheet.{Sheet}
use Rattle.tabled_size.specs.Stored.{heights_of, widths_of}

-- the stored list, truncated to the table, else the estimates
abbrev pub effective_sizes : Option (List ℕ) → List ℕ → ℕ → List ℕ
effective_sizes None estimates count = estimates
effective_sizes (Some sizes) estimates count = take count sizes

abbrev pub effective : List (List (List ℕ)) → SpannedConfig → CompleteDimension → Sheet
effective cells config sizes = record {
  cells = cells;
  config = config;
  widths = effective_sizes (widths_of sizes) (estimated_widths cells config) (columns cells);
  heights = effective_sizes (heights_of sizes) (estimated_heights cells config) (length cells);
}
