-- Tables that were narrowed to a total width.
use Rattle.std.specs.Prelude.{◌≡◌, ℕ, max}
use Rattle.tabled_set.specs.Minimums.{emptied}
use Rattle.tabled_set.specs.Common.{AreAdditive, AreTexts, estimated, estimated_widths, Holds, IsSized, Sheet, total_width}

-- the widths are the estimated ones
abbrev pub HasEstimatedWidths : Sheet → Type 0
HasEstimatedWidths t = t.widths ≡ estimated_widths t.cells t.config

-- the total width of the table with empty cells
abbrev pub empty_width : Sheet → ℕ
empty_width t = total_width (estimated (emptied t.cells) t.config)

-- a table narrowed to n columns: its total is n, or that of the empty table if this is greater. It
-- holds its cells, which are texts, and additive if they were
pub record HasExactTotal (n : ℕ) (old new : Sheet) : Type 0 where
  pub total : total_width new ≡ max n (empty_width old)
  pub sized : IsSized new
  pub holds : Holds new
  pub texts : AreTexts new.cells
  pub additive : AreAdditive old.cells → AreAdditive new.cells
