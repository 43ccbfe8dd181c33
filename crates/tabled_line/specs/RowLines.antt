-- The lines of a row, and the lines of the texts in them.
use Rattle.std.specs.Prelude.{◌≡◌, ◌<◌, ◌⊎◌, ℕ, false, true}
use Rattle.tabled_config.specs.declared.alignment.AlignmentVertical.TheVariants as vertical
use Rattle.tabled_config.specs.declared.spanned.CellStyle.{CellStyle}
use Rattle.tabled_line.specs.Cursors.{AreAt, IsTextLine}
use Rattle.tabled_line.specs.Fill.{fill}
use Rattle.tabled_line.specs.Row.{RowSheet, block_line}
use Rattle.tabled_line.specs.declared.cell_lines.CellLine.{CellLine}
use Rattle.tabled_line.specs.declared.cell_lines.CellLine.TheVariants.{Blank, Text, Unknown}
use Rattle.tabled_line.specs.declared.cell_lines.TextLine.{TextLine}
use Rattle.tabled_line.specs.declared.cell_lines.RowLine.{RowLine}

-- a text begins in the first line of its cell, spaces are below it, and its lines are aligned alike
pub record IsTop (style : CellStyle) : Type 0 where
  pub above : style.padding.top.size ≡ 0
  pub vertical_is : style.vertical ≡ vertical.Top
  pub below : style.padding.bottom.fill ≡ 32
  pub alike : style.line_alignment ≡ false

abbrev pub AreTop : RowSheet → Type 0
AreTop row = (column : ℕ) → column < row.columns.count → IsTop (row.style column)

-- a line of a row, with the cursors in it
pub record IsRowLine (row : RowSheet) (line : RowLine) : Type 0 where
  pub index_in : line.index < line.height
  pub height_is : line.height ≡ row.height
  pub top_is : line.top ≡ true → AreTop row
  pub cursors_are : AreAt row line.index line.cursors.now

-- the line of a cell's text in line `index` of the row, which spaces can surround
pub record IsCellText (row : RowSheet) (index column : ℕ) (line : TextLine) : Type 0 where
  pub line_is : IsTextLine (row.text column) index line
  pub alone : IsTop (row.style column) ⊎ ((row.height ≡ 1) × (line.widest ≡ line.columns))

-- what is known of a cell in line `index` of the row is true
abbrev pub IsCellLine : RowSheet → ℕ → ℕ → CellLine → Type 0
IsCellLine row index column (Text line) = IsCellText row index column line
IsCellLine row index column Blank = block_line row index column ≡ fill 32 (row.columns.width column)
IsCellLine row index column Unknown = Unit {0}
