-- The stored widths and heights.
use Rattle.std.specs.Prelude.{ℕ, Bool, ◌&&◌, List, Option, is_some, option_map}
use Rattle.tabled_size.specs.declared.complete_dimension.CompleteDimension.{CompleteDimension}

abbrev pub widths_of : CompleteDimension → Option (List ℕ)
widths_of sizes = option_map (λ v. v.items) sizes.width

abbrev pub heights_of : CompleteDimension → Option (List ℕ)
heights_of sizes = option_map (λ v. v.items) sizes.height

-- whether both are stored
abbrev pub is_stored : CompleteDimension → Bool
is_stored sizes = is_some (widths_of sizes) && is_some (heights_of sizes)
