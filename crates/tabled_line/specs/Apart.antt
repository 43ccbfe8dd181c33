-- Rows whose settings separate their cells: no text can join with what is next to it.
use Rattle.std.specs.Prelude.{◌≡◌, ℕ, ◌+◌, ◌-◌, ◌*◌, ◌<◌, ◌≤◌, ◌⊎◌, true}
use Rattle.std.specs.Str.{IsUtf8}
use Rattle.tabled_text.specs.Measure.{text_columns}
use Rattle.tabled_text.specs.Plain.{IsAdditiveColumn}
use Rattle.tabled_text.specs.FramedLines.{IsSeparatorColumn}
use Rattle.tabled_config.specs.declared.borders.Frame.{Frame}
use Rattle.tabled_config.specs.declared.spanned.CellStyle.{CellStyle}
use Rattle.tabled_priority.specs.Sums.{one_if, sum_below}
use Rattle.tabled_line.specs.Row.{ColumnSheet, RowSheet}

-- the width of a line: the columns, the vertical lines that are there, and the side margins
unfoldable pub line_total : ColumnSheet → ℕ
line_total columns =
    let f = columns.frame in
    (f.margin.left.size + one_if f.left.there)
    + ((sum_below columns.width columns.count + (columns.count - 1) * one_if f.inner.there) + (one_if f.right.there + f.margin.right.size))

-- the padding of a cell consists of separators
pub record IsApartStyle (style : CellStyle) : Type 0 where
  pub left : IsSeparatorColumn style.padding.left.fill
  pub right : IsSeparatorColumn style.padding.right.fill
  pub top : IsSeparatorColumn style.padding.top.fill
  pub bottom : IsSeparatorColumn style.padding.bottom.fill

-- vertical lines are additive, and side margins are separators
pub record IsApartFrame (frame : Frame) : Type 0 where
  pub inner : IsAdditiveColumn frame.inner.main
  pub left : IsAdditiveColumn frame.left.main
  pub right : IsAdditiveColumn frame.right.main
  pub margin_left : IsSeparatorColumn frame.margin.left.fill
  pub margin_right : IsSeparatorColumn frame.margin.right.fill

-- each cell has left padding
abbrev pub ArePaddedLeft : ℕ → (ℕ → CellStyle) → Type 0
ArePaddedLeft count style = (c : ℕ) → c < count → 0 < (style c).padding.left.size

-- the vertical lines before cells are separators, or padding follows them: a variation selector at
-- the beginning of a text would join with `#`, `*` or a digit before it
abbrev pub HasSteadyBars : Frame → ℕ → (ℕ → CellStyle) → Type 0
HasSteadyBars frame count style = (IsSeparatorColumn frame.left.main × IsSeparatorColumn frame.inner.main) ⊎ ArePaddedLeft count style

-- between each two cells there is a vertical line, left padding of each cell, or right padding of
-- each cell
abbrev pub HasSeparators : Frame → ℕ → (ℕ → CellStyle) → Type 0
HasSeparators frame count style =
    (frame.inner.there ≡ true)
    ⊎ (ArePaddedLeft count style ⊎ ((c : ℕ) → c < count → 0 < (style c).padding.right.size))

-- the cells of a row are separated: no text joins with what is next to it, and something is between
-- each two
pub record AreApartCells (frame : Frame) (count : ℕ) (style : ℕ → CellStyle) : Type 0 where
  pub styles : (c : ℕ) → c < count → IsApartStyle (style c)
  pub bars : HasSteadyBars frame count style
  pub gaps : HasSeparators frame count style

-- a row of separated cells, with such a frame
pub record IsApartRow (row : RowSheet) : Type 0 where
  pub frame : IsApartFrame row.columns.frame
  pub cells : AreApartCells row.columns.frame row.columns.count row.style

-- the cells are UTF-8, and the columns hold them with their padding
pub record HoldsTexts (row : RowSheet) : Type 0 where
  pub texts : (c : ℕ) → c < row.columns.count → IsUtf8 (row.text c)
  pub fits : (c : ℕ) → c < row.columns.count
      → text_columns (row.text c) + ((row.style c).padding.left.size + (row.style c).padding.right.size) ≤ row.columns.width c
