-- What options that change the sizes of a table promise, by the priority and the texts.
use Rattle.std.specs.Prelude.{◌≡◌, ◌<◌, ℕ, Bool, List, Option, [], false, length, max, sum}
use Rattle.tabled_set.specs.Common.{AreCleared, AreTexts, CompleteDimension, Entity, estimated, Holds, is_empty, IsAdditive, IsSized, Sheet}
use Rattle.tabled_set.specs.Common.{SpannedConfig, total_height, total_width}
use Rattle.tabled_set.specs.BestNarrowing.{HasLeastWidth, IsBestCut, IsBestWordWrapped, IsBestWrapped}
use Rattle.tabled_set.specs.ExactTotal.{HasEstimatedWidths, HasExactTotal}
use Rattle.tabled_set.specs.Truncated.{IsAdditiveLimit, SuffixLimit}
use Rattle.tabled_set.specs.HeightFrame.{frame_height}
use Rattle.tabled_set.specs.Priorities.{AddsTo, Grows, Shrinks, TakesFrom, TakesGreatest}

-- what holds of the sizes that are left after those of a hint are cleared
abbrev pub AfterClearing : Option Entity → CompleteDimension → (CompleteDimension → Type 0) → Type 0
AfterClearing hint sizes holds = (left : CompleteDimension) → AreCleared hint sizes left → holds left

-- the widths are estimated, and the total is greater than n
pub record IsWiderThan (n : ℕ) (t : Sheet) : Type 0 where
  pub estimates : HasEstimatedWidths t
  pub wider : n < total_width t

-- wrapped to n columns. With a priority that takes all it can, the total is exact and each cell has
-- the fewest lines, whatever the texts are. With one that shrinks the largest first, the greatest
-- width is the least possible
pub record WrapsAsPromised {P : Type 0} (shrinks : Shrinks P) (s : P) (words : Bool) (n : ℕ)
    (old new : Sheet) : Type 0 where
  pub exact : TakesFrom shrinks s → IsWiderThan n old → AreTexts old.cells → HasExactTotal n old new
  pub best : TakesFrom shrinks s → IsWiderThan n old → IsBestWrapped words old new
  pub least : TakesGreatest shrinks s → IsWiderThan n old → HasLeastWidth old new

-- wrapped between words to n columns: the same
pub record WordWrapsAsPromised {P : Type 0} (shrinks : Shrinks P) (s : P) (n : ℕ) (old new : Sheet) : Type 0 where
  pub exact : TakesFrom shrinks s → IsWiderThan n old → AreTexts old.cells → HasExactTotal n old new
  pub best : TakesFrom shrinks s → IsWiderThan n old → IsBestWordWrapped old new
  pub least : TakesGreatest shrinks s → IsWiderThan n old → HasLeastWidth old new

-- truncated to n columns. With a priority that takes all it can, the total is exact if the suffix
-- is additive, and without a suffix no cut could be longer. With one that shrinks the largest
-- first, the greatest width is the least possible
pub record TruncatesAsPromised {P : Type 0} (shrinks : Shrinks P) (s : P) (suffix : List ℕ) (limit : SuffixLimit)
    (multiline : Bool) (n : ℕ) (old new : Sheet) : Type 0 where
  pub exact : TakesFrom shrinks s → IsAdditive suffix → IsAdditiveLimit limit → IsWiderThan n old → AreTexts old.cells → HasExactTotal n old new
  pub best : TakesFrom shrinks s → suffix ≡ [] → IsWiderThan n old → IsBestCut multiline old new
  pub least : TakesGreatest shrinks s → IsWiderThan n old → HasLeastWidth old new

-- widened to n columns. With a priority that adds the whole amount, the total is n if some width
-- isn't 0. With any priority, the sizes still cover all columns and rows if they did, and the table
-- still holds its cells if it did
pub record WidensAsPromised {P : Type 0} (grows : Grows P) (s : P) (n : ℕ) (old new : Sheet) : Type 0 where
  pub exact : AddsTo grows s → is_empty old.cells ≡ false → total_width old < n → 0 < sum old.widths → total_width new ≡ n
  pub sized : IsSized old → IsSized new
  pub holds : Holds old → Holds new

-- grown to n lines, by a priority that adds the whole amount: the total is n
pub record HeightensAsPromised {P : Type 0} (grows : Grows P) (s : P) (n : ℕ) (cells : List (List (List ℕ)))
    (config : SpannedConfig) (new : Sheet) : Type 0 where
  pub exact : AddsTo grows s → is_empty cells ≡ false → total_height (estimated cells config) < n → total_height new ≡ n

-- limited to n lines, by a priority that takes all it can: the total is n, or the height of the
-- table without its rows if this is greater
pub record LimitsAsPromised {P : Type 0} (shrinks : Shrinks P) (s : P) (n : ℕ) (cells : List (List (List ℕ)))
    (config : SpannedConfig) (new : Sheet) : Type 0 where
  pub exact : TakesFrom shrinks s → is_empty cells ≡ false → n < total_height (estimated cells config)
      → total_height new ≡ max n (frame_height config (length cells))
