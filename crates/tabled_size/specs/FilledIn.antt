-- Stored sizes, completed with estimates.
use Rattle.std.specs.Prelude.{◌≡◌, ℕ, ◌⊎◌, List, Some, None, unwrap_or}
use Rattle.tabled_config.specs.declared.spanned.SpannedConfig.{SpannedConfig}
use Rattle.tabled_size.specs.declared.complete_dimension.CompleteDimension.{CompleteDimension}
use Rattle.tabled_size.specs.Estimates.{IsTooHigh, IsTooWide, estimated_heights, estimated_widths}
use Rattle.tabled_size.specs.Stored.{heights_of, widths_of}

-- stored sizes are unchanged, and the others are estimated
pub record IsFilledIn (old : CompleteDimension) (cells : List (List (List ℕ))) (config : SpannedConfig) (new : CompleteDimension) : Type 0 where
  pub widths : widths_of new ≡ Some (unwrap_or (widths_of old) (estimated_widths cells config))
  pub heights : heights_of new ≡ Some (unwrap_or (heights_of old) (estimated_heights cells config))

-- a size that isn't stored exceeds `usize::MAX`
abbrev pub HasNoEstimate : CompleteDimension → List (List (List ℕ)) → SpannedConfig → Type 0
HasNoEstimate old cells config =
    ((widths_of old ≡ None) × IsTooWide cells config) ⊎ ((heights_of old ≡ None) × IsTooHigh cells config)
