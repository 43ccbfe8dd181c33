-- The table that a plan makes of the cells of a text.
use Rattle.std.specs.Prelude.{◌≡◌, ℕ, ◌-◌, true, false, List, [], MatchBool, nat_le}
use Rattle.tabled_set.specs.CellChanges.{AreChanged, for_content_size, if_wider, truncating, wrapping}
use Rattle.tabled_set.specs.declared.truncate.SuffixLimit.TheVariants.{Cut}
use Rattle.tabled_config.specs.declared.spanned.SpannedConfig.{SpannedConfig}
use Rattle.tabled_priority.specs.Permitted.{at}
use Rattle.tabled_set.specs.Minimums.{minimums, side_padding}
use Rattle.tabled_set.specs.Narrowed.{content_width}
use Rattle.tabled_size.specs.Estimates.{estimated_heights}
use Rattle.tabled_size.specs.Sheet.{Sheet}
use Rattle.tabled_size.specs.Totals.{total_width}
use Rattle.tabled_table.specs.TableSheet.{new_sheet}
use Rattle.tabled_text.specs.Cut.{IsCut}
use Rattle.tabled.specs.declared.arguments.Order.{Order}
use Rattle.tabled.specs.declared.arguments.Plan.{Plan}
use Rattle.tabled.specs.declared.arguments.Plan.TheVariants.{Buffered, Streamed, Wrapped, Shortened}
use Rattle.tabled.specs.Orders.{IsShrunk}

-- the cells of a table, row by row
abbrev pub Cells : Type 0
Cells = List (List (List ℕ))

-- how widths shrink in an order, by a number of columns and down to minimums
abbrev pub OrderShrinks : Order → List ℕ → List ℕ → ℕ → List ℕ → Type 0
OrderShrinks order old mins by new =
    (kept : ℕ) × IsShrunk order 0 (record { old = old; mins = mins; by = by; new = new }) kept

-- a table narrowed to n: its widths shrink by what the total has above n, each cell is changed for
-- its content width, and the heights are those of the new texts
pub record IsNarrowedTo (shrinks : List ℕ → List ℕ → ℕ → List ℕ → Type 0) (change : ℕ → List ℕ → List ℕ → Type 0) (n : ℕ) (old new : Sheet) : Type 0 where
  pub config : new.config ≡ old.config
  pub widths : shrinks old.widths (minimums old.cells old.config) (total_width old - n) new.widths
  pub cells : AreChanged (λ row column. true) (for_content_size change (content_width old new.widths)) old.cells new.cells
  pub heights : new.heights ≡ estimated_heights new.cells new.config

-- a table of at most n columns doesn't change
abbrev pub FitsInto : (List ℕ → List ℕ → ℕ → List ℕ → Type 0) → (ℕ → List ℕ → List ℕ → Type 0) → ℕ → Sheet → Sheet → Type 0
FitsInto shrinks change n old new = MatchBool (nat_le (total_width old) n) (new ≡ old) (IsNarrowedTo shrinks change n old new)

-- a cell is cut to the content width of its column
abbrev pub cut_to : List ℕ → SpannedConfig → ℕ → ℕ → List ℕ → List ℕ → Type 0
cut_to widths config row column = IsCut (at widths column - side_padding config row column)

-- a streamed table has the sizes of the new one, and each cell is cut to its content width
pub record IsStreamedFrom (old new : Sheet) : Type 0 where
  pub config : new.config ≡ old.config
  pub widths : new.widths ≡ old.widths
  pub cells : AreChanged (λ row column. true) (cut_to old.widths old.config) old.cells new.cells
  pub heights : new.heights ≡ old.heights

-- the table that a plan makes of a whole one: the same, or one that fits into n columns
abbrev pub IsPlannedOf : Plan → Sheet → Sheet → Type 0
IsPlannedOf Buffered whole t = t ≡ whole
IsPlannedOf Streamed whole t = IsStreamedFrom whole t
IsPlannedOf (Wrapped n words order) whole t = FitsInto (OrderShrinks order) (wrapping words) n whole t
IsPlannedOf (Shortened n order) whole t = FitsInto (OrderShrinks order) (if_wider (truncating [] Cut false)) n whole t

-- the table that a plan makes of the new table of some cells
abbrev pub IsPlanned : Plan → Cells → Sheet → Type 0
IsPlanned plan cells t = IsPlannedOf plan (new_sheet cells) t

-- the plan that measures everything first
abbrev pub measured : Plan → Plan
measured Streamed = Buffered
measured plan = plan
