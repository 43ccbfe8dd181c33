-- Properties of the table that a plan makes, each under its own name.
use Rattle.std.specs.Prelude.{◌≡◌, ◌<◌, ℕ, false, ⊤, length}
use Rattle.std.specs.List.{All}
use Rattle.tabled_text.specs.Exact.{IsExactLine}
use Rattle.tabled_config.specs.declared.spanned.SpannedConfig.{SpannedConfig}
use Rattle.tabled_grid.specs.ApartSheet.{IsApartConfig}
use Rattle.tabled_grid.specs.Picture.{picture}
use Rattle.tabled_set.specs.BestNarrowing.{HasLeastWidth, IsBestCut, IsBestWrapped}
use Rattle.tabled_set.specs.ExactTotal.{HasExactTotal}
use Rattle.tabled_line.specs.Additive.{EachLineTakes}
use Rattle.tabled_size.specs.Sheet.{Sheet}
use Rattle.tabled_size.specs.Totals.{total_height, total_width}
use Rattle.tabled_table.specs.TableSheet.{new_sheet}
use Rattle.tabled.specs.declared.arguments.Order.{Order}
use Rattle.tabled.specs.declared.arguments.Order.TheVariants.{Greatest}
use Rattle.tabled.specs.declared.arguments.Plan.{Plan}
use Rattle.tabled.specs.declared.arguments.Plan.TheVariants.{Streamed, Wrapped, Shortened}
use Rattle.tabled.specs.Planned.{Cells}

-- a wider table that is wrapped or truncated to n takes n columns, or as many as the empty table if
-- that is more, and its columns hold its cells
abbrev pub HasWantedTotal : Plan → Sheet → Sheet → Type 0
HasWantedTotal (Wrapped n words order) old new = n < total_width old → HasExactTotal n old new
HasWantedTotal (Shortened n order) old new = n < total_width old → HasExactTotal n old new
HasWantedTotal _ old new = ⊤

-- if the widest columns shrink first, no permitted widths with the same sum have a smaller maximum
abbrev pub IsLeastBy : Order → Sheet → Sheet → Type 0
IsLeastBy Greatest old new = HasLeastWidth old new
IsLeastBy _ old new = ⊤

abbrev pub HasLeastGreatestWidth : Plan → Sheet → Sheet → Type 0
HasLeastGreatestWidth (Wrapped n words order) old new = n < total_width old → IsLeastBy order old new
HasLeastGreatestWidth (Shortened n order) old new = n < total_width old → IsLeastBy order old new
HasLeastGreatestWidth _ old new = ⊤

-- a wrapped cell has the fewest lines possible for its content width, and without the inserted
-- breaks it is the old text
abbrev pub HasFewestBreaks : Plan → Sheet → Sheet → Type 0
HasFewestBreaks (Wrapped n words order) old new = n < total_width old → IsBestWrapped words old new
HasFewestBreaks _ old new = ⊤

-- a cut cell of one exact line (its columns are the sum of its characters') is the longest
-- beginning that fits, with U+FFFD in the column that a wide character leaves
abbrev pub HasLongestBeginnings : Plan → Sheet → Sheet → Type 0
HasLongestBeginnings (Shortened n order) old new = n < total_width old → IsBestCut false old new
HasLongestBeginnings _ old new = ⊤

-- if all streamed cells are exact lines, the streamed table is the buffered one
abbrev pub IsAsBuffered : Plan → Sheet → Sheet → Type 0
IsAsBuffered Streamed old new = All (All IsExactLine) old.cells → new ≡ old
IsAsBuffered _ old new = ⊤

-- settings that separate cells, whatever the cells hold, in tables of any size
abbrev pub KeepsApart : SpannedConfig → Type 0
KeepsApart config = (rows count : ℕ) → IsApartConfig config rows count

-- all properties of a table under any settings: if these separate cells, each line takes the total
-- width; there are as many lines as the total height; and the table is as good as its plan asks
pub record IsBestOf (plan : Plan) (whole t : Sheet) : Type 0 where
  pub edges : KeepsApart whole.config → EachLineTakes (total_width t) (picture t)
  pub lines : length (picture t) ≡ total_height t
  pub total : HasWantedTotal plan whole t
  pub least : HasLeastGreatestWidth plan whole t
  pub fewest : HasFewestBreaks plan whole t
  pub longest : HasLongestBeginnings plan whole t
  pub alike : IsAsBuffered plan whole t

-- the same properties of a new table; its settings separate cells, so each line takes the total width
pub record IsBestPlanned (plan : Plan) (cells : Cells) (t : Sheet) : Type 0 where
  pub edges : EachLineTakes (total_width t) (picture t)
  pub best : IsBestOf plan (new_sheet cells) t
