-- What the calls for the totals of a table return.
use Rattle.std.specs.Prelude.{◌≡◌, ◌^◌, ◌<◌, ◌≤◌, ℕ, List, length, Result, Ok, Err}
use Rattle.std.specs.Bool.{⊤}
use Rattle.tabled_base.specs.declared.error.TableError.{TableError}
use Rattle.tabled_base.specs.declared.error.TableError.TheVariants.{Memory, ShortHeights, ShortWidths, Range}
use Rattle.tabled_config.specs.declared.spanned.SpannedConfig.{SpannedConfig}
use Rattle.tabled_size.specs.Totals.{filled_height, filled_width}

-- for a table with rows and columns: the total of its sizes, or an error. `Memory` is possible at any
-- time; `short` if a size is missing; `Range` if the total exceeds `usize::MAX`.
abbrev pub ReturnsTotal : TableError → (ℕ → List ℕ → ℕ) → ℕ → List ℕ → Result ℕ TableError → Type 0
ReturnsTotal short total count sizes (Ok n) = (count ≤ length sizes) × (n ≡ total count sizes)
ReturnsTotal short total count sizes (Err Memory) = ⊤
ReturnsTotal short total count sizes (Err Range) = (count ≤ length sizes) × (2 ^ 64 ≤ total count sizes)
ReturnsTotal short total count sizes (Err e) = (e ≡ short) × (length sizes < count)

abbrev pub ReturnsWidth : SpannedConfig → ℕ → List ℕ → Result ℕ TableError → Type 0
ReturnsWidth config = ReturnsTotal ShortWidths (filled_width config)

abbrev pub ReturnsHeight : SpannedConfig → ℕ → List ℕ → Result ℕ TableError → Type 0
ReturnsHeight config = ReturnsTotal ShortHeights (filled_height config)
