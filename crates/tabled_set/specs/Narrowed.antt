-- Tables whose columns shrink to a total, and whose cells are changed to fit.
use Rattle.std.specs.Prelude.{◌≡◌, ◌⊎◌, ◌<◌, ◌≤◌, ◌^◌, ℕ, ◌-◌, true, false, nat_le, List, MatchBool, Option, Some, None, if◌then◌else◌}
use Rattle.std.specs.Prelude.{length, take, Bool, ◌&&◌, nat_lt, [], slice_index_or}
use Rattle.tabled_set.specs.Common.{at, CompleteDimension, effective, HasNoEstimate, heights_of, is_empty, IsFilledIn, IsPermitted}
use Rattle.tabled_set.specs.Common.{IsTooWide, Memory, Sheet, SpannedConfig, TableError, total_width, widths_of, estimated}
use Rattle.tabled_set.specs.Common.{total_height}
use Rattle.tabled_set.specs.CellChanges.{AreChanged, AreChangedBefore, for_content_size, if_taken, NeedsMemory, needs, ByColumn}
use Rattle.tabled_set.specs.CellChanges.{Higher, never_in_place, ByRow, TextChange}
use Rattle.tabled_set.specs.Increased.{StopsFilling}
use Rattle.tabled_set.specs.Minimums.{emptied, minimums, own_padding, side_padding}
use Rattle.tabled_set.specs.declared.narrowing.ColumnWidths.{ColumnWidths}
use Rattle.tabled_set.specs.Priorities.{Shrinking, Shrinks}
use Rattle.tabled_set.specs.SizedTable.{SizedTable, sheet_of}
use Rattle.tabled_set.specs.TextLines.{limiting}

-- a column has one of the widths, and it isn't below its minimum
abbrev pub is_permitted : List ℕ → List ℕ → ℕ → Bool
is_permitted widths mins column = nat_lt column (length widths) && nat_le (at mins column) (at widths column)

-- the width of such a column, less some columns
abbrev pub permitted_width : List ℕ → List ℕ → ℕ → ℕ → Option ℕ
permitted_width widths mins less column = if is_permitted widths mins column then Some (at widths column - less) else None

-- a width less the padding of a cell
abbrev pub less_padding : Option ℕ → ℕ → Option ℕ
less_padding None padding = None
less_padding (Some width) padding = Some (width - padding)

-- the content width of a cell, if its column isn't below its minimum
abbrev pub content_width : Sheet → List ℕ → ℕ → ℕ → Option ℕ
content_width t widths row column = permitted_width widths (minimums t.cells t.config) (side_padding t.config row column) column

-- the priority may shrink the old list by an amount to the new one, which is as long and permitted
-- by the minimums
pub record IsShrunkBy {P : Type 0} (shrinks : Shrinks P) (priority : P) (old mins : List ℕ) (by : ℕ)
    (new : List ℕ) : Type 0 where
  pub last : P
  pub shrunk : shrinks priority old mins by new last
  pub permitted : IsPermitted old mins new

-- so the widths of a table, by the excess over the total and with the columns' minimums
abbrev pub IsShrunkTo : {P : Type 0} → Shrinking P → Sheet → List ℕ → Type 0
IsShrunkTo how t widths =
    IsShrunkBy how.shrinks how.priority t.widths (take (length t.widths) (minimums t.cells t.config)) (total_width t - how.total) widths

-- a table that is too wide is narrowed: its widths are shrunk and stored, its cells are changed for
-- their content widths, if they have any, and its heights are cleared
pub record IsNarrowed {P : Type 0} (how : Shrinking P) (change : ℕ → List ℕ → List ℕ → Type 0)
    (t : Sheet) (cells : List (List (List ℕ))) (sizes : CompleteDimension) : Type 0 where
  pub widths : List ℕ
  pub shrunk : IsShrunkTo how t widths
  pub changed : AreChanged (λ row column. true) (for_content_size change (content_width t widths)) t.cells cells
  pub stored : widths_of sizes ≡ Some widths
  pub cleared : heights_of sizes ≡ None

-- what narrowing a table leaves of its cells and sizes: an empty table is unchanged, one that isn't
-- wider than the total has its sizes filled in, and a wider one is narrowed
abbrev pub Narrows : {P : Type 0} → Shrinking P → (ℕ → List ℕ → List ℕ → Type 0) → SizedTable → List (List (List ℕ))
    → CompleteDimension → Type 0
Narrows how change old cells sizes =
    MatchBool (is_empty old.cells) ((cells ≡ old.cells) × (sizes ≡ old.sizes))
    (MatchBool (nat_le (total_width (sheet_of old)) how.total) ((cells ≡ old.cells) × IsFilledIn old.sizes old.cells old.config sizes)
    (IsNarrowed how change (sheet_of old) cells sizes))

-- a table has to be narrowed to n columns: it has a cell, and is wider
pub record MustNarrow (n : ℕ) (cells : List (List (List ℕ))) (config : SpannedConfig) (sizes : CompleteDimension) : Type 0 where
  pub some : is_empty cells ≡ false
  pub wider : n < total_width (effective cells config sizes)

-- an allocation failed at a cell of a table that is too wide. The cells before it, column by column,
-- have changed; it and the others haven't
pub record IsNarrowedBefore {P : Type 0} (how : Shrinking P) (by : TextChange) (t : Sheet) (cells : List (List (List ℕ))) : Type 0 where
  pub wider : how.total < total_width t
  pub widths : List ℕ
  pub shrunk : IsShrunkTo how t widths
  pub changed : AreChangedBefore ByColumn (λ row column. true) (needs by.cell_filter by.in_place (content_width t widths))
      (for_content_size (if_taken by.cell_filter by.change) (content_width t widths)) t.cells cells

-- an error after sizes were filled in: the table is too wide. No cell has changed, or with `Memory`
-- those before the one at which it stopped have
pub record StopsShrinking {P : Type 0} (how : Shrinking P) (by : TextChange) (error : TableError) (old : SizedTable)
    (cells : List (List (List ℕ))) (sizes : CompleteDimension) : Type 0 where
  pub wider : how.total < total_width (sheet_of old)
  pub filled : IsFilledIn old.sizes old.cells old.config sizes
  pub stopped : (cells ≡ old.cells) ⊎ ((error ≡ Memory) × IsNarrowedBefore how by (sheet_of old) cells)

-- what an error leaves of a table's cells and sizes: all unchanged while sizes are estimated, else
-- what `StopsShrinking` says
abbrev pub StopsNarrowing : {P : Type 0} → Shrinking P → TextChange → TableError → SizedTable → List (List (List ℕ))
    → CompleteDimension → Type 0
StopsNarrowing how by error old cells sizes =
    ((cells ≡ old.cells) × StopsFilling error old.sizes sizes) ⊎ StopsShrinking how by error old cells sizes

-- the total overflows `usize`, or the side padding of a cell does in a table wider than n
abbrev pub WiderOutOfRange : ℕ → List (List (List ℕ)) → SpannedConfig → CompleteDimension → Type 0
WiderOutOfRange n cells config sizes =
    (2 ^ 64 ≤ total_width (effective cells config sizes)) ⊎ ((n < total_width (effective cells config sizes)) × IsTooWide (emptied cells) config)

-- a sum overflows `usize`: in the measurement, in the estimate of a missing size, or in narrowing
-- to n
abbrev pub NarrowingOutOfRange : Type 0 → ℕ → List (List (List ℕ)) → SpannedConfig → CompleteDimension → Type 0
NarrowingOutOfRange measure_out_of_range n cells config sizes =
    (is_empty cells ≡ false) × (measure_out_of_range ⊎ (HasNoEstimate sizes cells config ⊎ WiderOutOfRange n cells config sizes))

-- the content width of a cell: that of its column, less its own padding
abbrev pub content_of : ColumnWidths → ℕ → ℕ → Option ℕ
content_of found row column = less_padding (slice_index_or found.content.items column None) (own_padding found.config.now row column)

-- the widths to which a table that is too wide shrinks, with the content widths of its cells
pub record IsFound {P : Type 0} (how : Shrinking P) (t : Sheet) (found : ColumnWidths) : Type 0 where
  pub wider : how.total < total_width t
  pub shrunk : IsShrunkTo how t found.widths.items
  pub sized : (row column : ℕ) → content_of found row column ≡ content_width t found.widths.items row column

-- a table that isn't wider than n: it is empty and its sizes don't change, or they are filled in
abbrev pub FitsAlready : ℕ → List (List (List ℕ)) → SpannedConfig → CompleteDimension → CompleteDimension → Type 0
FitsAlready n cells config sizes sizes' =
    MatchBool (is_empty cells) (sizes' ≡ sizes) ((total_width (effective cells config sizes) ≤ n) × IsFilledIn sizes cells config sizes')

-- a table that is too wide: its sizes are filled in, and its columns shrink to these widths
pub record HasWidths {P : Type 0} (how : Shrinking P) (old : SizedTable) (sizes : CompleteDimension) (widths : ColumnWidths) : Type 0 where
  pub some : is_empty old.cells ≡ false
  pub filled : IsFilledIn old.sizes old.cells old.config sizes
  pub found : IsFound how (effective old.cells old.config sizes) widths

-- the content width of each cell by a list for the columns
abbrev pub column_width : List (Option ℕ) → ℕ → ℕ → Option ℕ
column_width widths row column = slice_index_or widths column None

-- the columns of a table that is too wide shrink: the new widths are stored, and the heights are
-- cleared. The cells have these content widths
pub record AreShrunk {P : Type 0} (how : Shrinking P) (old : SizedTable) (content : ℕ → ℕ → Option ℕ)
    (sizes : CompleteDimension) : Type 0 where
  pub some : is_empty old.cells ≡ false
  pub wider : how.total < total_width (sheet_of old)
  pub widths : List ℕ
  pub shrunk : IsShrunkTo how (sheet_of old) widths
  pub sized : (row column : ℕ) → content row column ≡ content_width (sheet_of old) widths row column
  pub stored : widths_of sizes ≡ Some widths
  pub cleared : heights_of sizes ≡ None

-- what an error leaves while no cell has changed: the sizes unchanged while they are estimated, or
-- filled in if the table is wider than n
pub record StopsBeforeNarrowing (n : ℕ) (error : TableError) (cells : List (List (List ℕ))) (config : SpannedConfig)
    (sizes sizes' : CompleteDimension) : Type 0 where
  pub some : is_empty cells ≡ false
  pub left : StopsFilling error sizes sizes' ⊎ ((n < total_width (effective cells config sizes)) × IsFilledIn sizes cells config sizes')

-- ---- rows that shrink to a total

-- a cell with more lines than its row's height keeps that many of its first lines, whatever its
-- padding
abbrev pub for_height : List ℕ → ℕ → ℕ → List ℕ → List ℕ → Type 0
for_height heights row column = if_taken Higher limiting (at heights row)

-- a cell has more lines than its row's height, and so changing it needs an allocation
abbrev pub needs_for_height : List ℕ → ℕ → ℕ → List ℕ → Type 0
needs_for_height heights row column = NeedsMemory Higher never_in_place (at heights row)

-- the heights to which the rows of a table with estimated sizes shrink, by the excess over the total
-- and without minimums
abbrev pub IsLoweredTo : {P : Type 0} → Shrinking P → Sheet → List ℕ → Type 0
IsLoweredTo how t heights = IsShrunkBy how.shrinks how.priority t.heights [] (total_height t - how.total) heights

-- a table that is too high: the estimated heights shrink and are stored. Cells are limited to their
-- rows' heights, and the widths don't change
pub record IsLowered {P : Type 0} (how : Shrinking P) (old : SizedTable) (cells : List (List (List ℕ)))
    (sizes : CompleteDimension) : Type 0 where
  pub heights : List ℕ
  pub shrunk : IsLoweredTo how (estimated old.cells old.config) heights
  pub changed : AreChanged (λ row column. true) (for_height heights) old.cells cells
  pub stored : heights_of sizes ≡ Some heights
  pub widths : widths_of sizes ≡ widths_of old.sizes

-- what limiting the lines of a table leaves of its cells and sizes: unchanged if the table is empty
-- or low enough, else lowered
abbrev pub LimitsHeight : {P : Type 0} → Shrinking P → SizedTable → List (List (List ℕ)) → CompleteDimension → Type 0
LimitsHeight how old cells sizes =
    MatchBool (is_empty old.cells) ((cells ≡ old.cells) × (sizes ≡ old.sizes))
    (MatchBool (nat_le (total_height (estimated old.cells old.config)) how.total) ((cells ≡ old.cells) × (sizes ≡ old.sizes))
    (IsLowered how old cells sizes))

-- an allocation failed in a table that is too high, at a cell with more lines than its row's height.
-- The cells before it, row by row, are limited; it and the others are unchanged
pub record IsLoweredBefore {P : Type 0} (how : Shrinking P) (old : Sheet) (cells : List (List (List ℕ))) : Type 0 where
  pub higher : how.total < total_height old
  pub heights : List ℕ
  pub shrunk : IsLoweredTo how old heights
  pub changed : AreChangedBefore ByRow (λ row column. true) (needs_for_height heights) (for_height heights) old.cells cells

-- what an error leaves of the cells of a table with estimated sizes: all unchanged, or with `Memory`
-- those before the one at which it stopped limited
abbrev pub StopsLimiting : {P : Type 0} → Shrinking P → TableError → Sheet → List (List (List ℕ)) → Type 0
StopsLimiting how error old cells = (cells ≡ old.cells) ⊎ ((error ≡ Memory) × IsLoweredBefore how old cells)
