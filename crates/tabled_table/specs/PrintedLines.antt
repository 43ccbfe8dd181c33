-- The lines of a printed table, and the cells that can be read in them.
use Rattle.std.specs.Prelude.{◌≡◌, ◌⊎◌, ℕ, List, length}
use Rattle.tabled_base.specs.Cells.{IsInside, cell_at}
use Rattle.tabled_grid.specs.Shown.{AreShownIn}
use Rattle.tabled_line.specs.Additive.{EachLineTakes}
use Rattle.tabled_size.specs.PlainCells.{AreAdditive}
use Rattle.tabled_size.specs.Sheet.{Sheet}
use Rattle.tabled_size.specs.TextCells.{AreTexts}
use Rattle.tabled_size.specs.Totals.{total_height, total_width}
use Rattle.tabled_table.specs.TableSheet.{IsApart, IsAdditiveTable, cells_of}
use Rattle.tabled_table.specs.declared.table.Table.{Table}
use Rattle.tabled_text.specs.Measure.{lines_of}

-- the settings separate the cells, which are texts; or settings and cells are additive
abbrev pub IsStraight : Table → Type 0
IsStraight table = (IsApart table × AreTexts (cells_of table)) ⊎ (IsAdditiveTable table × AreAdditive (cells_of table))

-- each line of a text takes the total width of a table, and there are as many as its total height
pub record HasTableLines (t : Sheet) (text : List ℕ) : Type 0 where
  pub takes : EachLineTakes (total_width t) (lines_of text)
  pub count : length (lines_of text) ≡ total_height t

-- all lines of each cell are shown in the lines of a text, one below the other
abbrev pub ShowsCells : List (List (List ℕ)) → List ℕ → Type 0
ShowsCells cells text = (row column : ℕ) → IsInside cells row column → AreShownIn (lines_of (cell_at cells row column)) (lines_of text)
