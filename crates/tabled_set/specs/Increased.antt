-- Tables whose columns or rows grow to a total, and errors before they do.
use Rattle.std.specs.Prelude.{◌≡◌, ℕ, ◌-◌, ◌⊎◌, ◌<◌, ◌≤◌, ◌^◌, nat_le, false, List, MatchBool, Some, unwrap_or}
use Rattle.tabled_set.specs.Common.{CompleteDimension, effective, estimated, estimated_heights, HasNoEstimate, heights_of, is_empty}
use Rattle.tabled_set.specs.Common.{is_stored, IsFilledIn, IsTooHigh, Memory, SpannedConfig, TableError, total_height, total_width}
use Rattle.tabled_set.specs.Common.{widths_of}
use Rattle.tabled_priority.specs.Grown.{IsNoneSmaller}
use Rattle.tabled_set.specs.Priorities.{Growing, Grows}
use Rattle.tabled_set.specs.SizedTable.{SizedTable, sheet_of}

-- such an error leaves the sizes unchanged. It is `Memory` only if widths or heights aren't stored
pub record StopsFilling (error : TableError) (old new : CompleteDimension) : Type 0 where
  pub lacking : error ≡ Memory → is_stored old ≡ false
  pub same : new ≡ old

-- the priority may grow the old list by an amount to the new one; no entry is smaller
pub record IsGrownBy {P : Type 0} (grows : Grows P) (priority : P) (old : List ℕ) (by : ℕ) (new : List ℕ) : Type 0 where
  pub last : P
  pub grown : grows priority old by new last
  pub kept : IsNoneSmaller old new

-- ---- the width

-- a table that is too narrow: the effective widths grow to the total and are stored, and so are the
-- effective heights
pub record IsWidened {P : Type 0} (how : Growing P) (old : SizedTable) (sizes : CompleteDimension) : Type 0 where
  pub widths : List ℕ
  pub grown : IsGrownBy how.grows how.priority (sheet_of old).widths (how.total - total_width (sheet_of old)) widths
  pub stored : widths_of sizes ≡ Some widths
  pub heights : heights_of sizes ≡ Some (unwrap_or (heights_of old.sizes) (estimated_heights old.cells old.config))

-- the sizes after a table was widened to at least the total: unchanged if the table is empty,
-- filled in if it was wide enough, else widened
abbrev pub IncreasesWidth : {P : Type 0} → Growing P → SizedTable → CompleteDimension → Type 0
IncreasesWidth how old sizes =
    MatchBool (is_empty old.cells) (sizes ≡ old.sizes)
    (MatchBool (nat_le how.total (total_width (sheet_of old))) (IsFilledIn old.sizes old.cells old.config sizes)
    (IsWidened how old sizes))

-- an error after sizes were filled in. It is `Memory` only if the table has fewer than n columns
pub record StopsWidening (n : ℕ) (error : TableError) (cells : List (List (List ℕ))) (config : SpannedConfig)
    (old new : CompleteDimension) : Type 0 where
  pub narrower : error ≡ Memory → total_width (effective cells config old) < n
  pub filled : IsFilledIn old cells config new

-- what an error leaves of the sizes: unchanged or filled in
abbrev pub StopsIncreasing : ℕ → TableError → List (List (List ℕ)) → SpannedConfig → CompleteDimension → CompleteDimension → Type 0
StopsIncreasing n error cells config old new = StopsFilling error old new ⊎ StopsWidening n error cells config old new

-- a sum overflows `usize`: in the measurement, in the estimate of a missing size, or the total
abbrev pub WidthOutOfRange : Type 0 → List (List (List ℕ)) → SpannedConfig → CompleteDimension → Type 0
WidthOutOfRange measure_out_of_range cells config sizes =
    (is_empty cells ≡ false) × (measure_out_of_range ⊎ (HasNoEstimate sizes cells config ⊎ (2 ^ 64 ≤ total_width (effective cells config sizes))))

-- ---- the height, for which stored heights don't count

-- a table that is too low: the estimated heights grow to the total and are stored, and the widths
-- don't change
pub record IsHeightened {P : Type 0} (how : Growing P) (old : SizedTable) (sizes : CompleteDimension) : Type 0 where
  pub heights : List ℕ
  pub grown : IsGrownBy how.grows how.priority (estimated_heights old.cells old.config)
      (how.total - total_height (estimated old.cells old.config)) heights
  pub stored : heights_of sizes ≡ Some heights
  pub widths : widths_of sizes ≡ widths_of old.sizes

-- the sizes after a table was grown to at least the total: unchanged if the table is empty or was
-- high enough, else heightened
abbrev pub IncreasesHeight : {P : Type 0} → Growing P → SizedTable → CompleteDimension → Type 0
IncreasesHeight how old sizes =
    MatchBool (is_empty old.cells) (sizes ≡ old.sizes)
    (MatchBool (nat_le how.total (total_height (estimated old.cells old.config))) (sizes ≡ old.sizes)
    (IsHeightened how old sizes))

-- a sum overflows `usize`: in the measurement, in an estimate, or the total
abbrev pub HeightOutOfRange : Type 0 → List (List (List ℕ)) → SpannedConfig → Type 0
HeightOutOfRange measure_out_of_range cells config =
    (is_empty cells ≡ false) × (measure_out_of_range ⊎ (IsTooHigh cells config ⊎ (2 ^ 64 ≤ total_height (estimated cells config))))
