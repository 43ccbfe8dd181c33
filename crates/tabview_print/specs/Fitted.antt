-- Tables that are fitted to a width. A cell is the list of its bytes.
use Rattle.std.specs.Prelude.{◌≡◌, ℕ, ◌-◌, ◌<◌, ◌≤◌, ⊤, Bool, false, true, List, [], ◌∷◌, MatchBool, None, Some, length, nat_le}
use Rattle.tabled_base.specs.Cells.{IsInside, IsRectangular, cell_at, columns}
use Rattle.tabled_config.specs.declared.spanned.SpannedConfig.{SpannedConfig}
use Rattle.tabled_grid.specs.ApartSheet.{IsApartConfig}
use Rattle.tabled_grid.specs.Picture.{table_text}
use Rattle.tabled_line.specs.Additive.{EachLineTakes}
use Rattle.tabled_priority.specs.Permitted.{at, spare_total}
use Rattle.tabled_set.specs.CellChanges.{AreChanged, if_wider, truncating, word_wrapping}
use Rattle.tabled_set.specs.Minimums.{side_padding}
use Rattle.tabled_set.specs.declared.truncate.SuffixLimit.TheVariants.{Cut as CutSuffix}
use Rattle.tabled_size.specs.Estimates.{estimated_heights, estimated_widths}
use Rattle.tabled_size.specs.Holds.{Holds}
use Rattle.tabled_size.specs.Sheet.{Sheet}
use Rattle.tabled_size.specs.Stored.{heights_of, widths_of}
use Rattle.tabled_size.specs.TextCells.{AreTexts}
use Rattle.tabled_size.specs.Totals.{total_width}
use Rattle.tabled_size.specs.declared.complete_dimension.CompleteDimension.{CompleteDimension}
use Rattle.tabled_text.specs.Measure.{lines_of, text_columns}
use Rattle.tabled_text.specs.Plain.{IsAdditive}
use Rattle.tabview_cells.specs.Fitted.{GivesToFloors}
use Rattle.tabview_print.specs.Floors.{floors_of, is_name, keeps_at}
use Rattle.tabview_print.specs.declared.layout.Column.{Column}
use Rattle.tabview_print.specs.declared.layout.Narrowing.{Narrowing}
use Rattle.tabview_print.specs.declared.layout.Narrowing.TheVariants.{Cut, Wrap}

-- the mark of a text that is cut: `…`
abbrev pub mark : List ℕ
mark = 0xE2 ∷ 0x80 ∷ 0xA6 ∷ []

-- what a text becomes for a number of columns: it is wrapped between words, or cut with the mark if
-- it is wider
abbrev pub narrowing : Narrowing → ℕ → List ℕ → List ℕ → Type 0
narrowing Wrap = word_wrapping
narrowing Cut = if_wider (truncating mark CutSuffix false)

-- a text that stays if it fits: any that may be cut, and an additive one that may be wrapped
abbrev pub StaysIfFits : Narrowing → List ℕ → Type 0
StaysIfFits Wrap text = IsAdditive text
StaysIfFits Cut text = ⊤

-- the content width of a cell, its column's width less its padding
abbrev pub inner : Sheet → ℕ → ℕ → ℕ
inner t row column = at t.widths column - side_padding t.config row column

-- a table that is wider than n columns is fitted to n: its columns shrink, none below its floor,
-- and its cells become what fits
pub record IsFitted (laid : List Column) (header : Bool) (by : Narrowing) (n : ℕ) (old new : Sheet) : Type 0 where
  pub config : new.config ≡ old.config
  pub total : total_width new ≡ n
  -- each line that is printed takes n columns, if the settings separate the cells and these are
  -- texts. A table that can be printed holds its cells
  pub lines : IsApartConfig old.config (length old.cells) (columns old.cells) → IsRectangular old.cells → AreTexts old.cells
      → Holds new → EachLineTakes n (lines_of (table_text new))
  pub least : (column : ℕ) → at (floors_of laid header old) column ≤ at new.widths column
  pub most : (column : ℕ) → at new.widths column ≤ at old.widths column
  pub cells : AreChanged (λ row column. true) (λ row column. narrowing by (inner new row column)) old.cells new.cells
  pub heights : new.heights ≡ estimated_heights new.cells new.config
  -- a text that its column still holds is whole
  pub whole : (row column : ℕ) → IsInside old.cells row column → StaysIfFits by (cell_at old.cells row column)
      → 0 < inner new row column → text_columns (cell_at old.cells row column) ≤ inner new row column
      → cell_at new.cells row column ≡ cell_at old.cells row column
  -- so is each text that takes a column, except the name, of a column that keeps its width
  pub kept : (row column : ℕ) → IsInside old.cells row column → StaysIfFits by (cell_at old.cells row column)
      → 0 < text_columns (cell_at old.cells row column) → keeps_at laid column ≡ true → is_name header row ≡ false
      → cell_at new.cells row column ≡ cell_at old.cells row column

-- a table that can't be fitted to n columns: all its columns can give less than it is too wide
pub record IsTooNarrow (laid : List Column) (header : Bool) (n : ℕ) (t : Sheet) : Type 0 where
  pub wider : n < total_width t
  pub less : spare_total t.widths (floors_of laid header t) < total_width t - n

-- the table that is shown for n columns: a wider one is fitted, another is shown whole
abbrev pub ShowsWithin : List Column → Bool → Narrowing → ℕ → Sheet → Sheet → Type 0
ShowsWithin laid header by n t shown = MatchBool (nat_le (total_width t) n) (shown ≡ t) (IsFitted laid header by n t shown)

-- ---- for private functions

-- the columns of a table gave an excess, none below its floor. Their widths are stored, and the
-- cells are cut to these
pub record IsCutTo (floors : List ℕ) (excess : ℕ) (cells : List (List (List ℕ))) (config : SpannedConfig)
    (new : List (List (List ℕ))) (sizes : CompleteDimension) : Type 0 where
  pub widths : List ℕ
  pub long : length widths ≡ length (estimated_widths cells config)
  pub gives : GivesToFloors floors (estimated_widths cells config) [] excess widths
  pub stored : widths_of sizes ≡ Some widths
  pub cleared : heights_of sizes ≡ None
  pub changed : AreChanged (λ row column. true) (λ row column. narrowing Cut (at widths column - side_padding config row column)) cells new
