-- What a report promises.
use Rattle.std.specs.Prelude.{◌≡◌, ℕ, ◌<◌, List, None, map, string_bytes, true}
use Rattle.std.specs.declared.alloc.Global.{Global}
use Rattle.std.specs.declared.string.String.{String}
use Rattle.tabled_base.specs.Cells.{IsInside, cell_at, lengthened_rows}
use Rattle.tabled_grid.specs.Picture.{table_text}
use Rattle.tabled_grid.specs.Shown.{AreShownIn}
use Rattle.tabled_line.specs.Additive.{EachLineTakes}
use Rattle.tabled_set.specs.BestNarrowing.{IsBestWordWrapped, inner_width}
use Rattle.tabled_set.specs.Promised.{IsWiderThan}
use Rattle.tabled_size.specs.Sheet.{Sheet}
use Rattle.tabled_size.specs.Stored.{heights_of}
use Rattle.tabled_size.specs.TextCells.{AreTexts}
use Rattle.tabled_table.specs.TableSheet.{cells_of, sheet}
use Rattle.tabled_table.specs.declared.table.Table.{Table}
use Rattle.tabled_text.specs.Breaking.{EachUnitFits}
use Rattle.tabled_text.specs.Measure.{lines_of}
use Rattle.tabled_text.specs.WordWrap.{HasOldWords}

-- rows of strings
abbrev pub Strings : Type 0
Strings = List (List (String Global))

-- the cells of a table of such rows: short rows are filled up with empty cells
abbrev pub cells_from : Strings → List (List (List ℕ))
cells_from rows = lengthened_rows (map (map string_bytes) rows)

-- a cell can be read in a report: the lines of the wrapped cell are parts of lines of the report,
-- one below the other. The wrapped cell is the cell with line feeds inserted, or put in the place of
-- spaces, if its column is wide enough for each of its characters
pub record CanBeRead (cells : List (List (List ℕ))) (wrapped : Sheet) (report : List ℕ) (row column : ℕ) : Type 0 where
  pub shown : AreShownIn (lines_of (cell_at wrapped.cells row column)) (lines_of report)
  pub whole : 0 < inner_width wrapped row column
      → EachUnitFits (inner_width wrapped row column) true (cell_at cells row column)
      → HasOldWords (cell_at cells row column) (cell_at wrapped.cells row column)

-- each line of a report is 80 columns wide, and each cell can be read in it. The report is the text
-- of the wrapped table
pub record IsReport (cells : List (List (List ℕ))) (report : List ℕ) : Type 0 where
  pub wide : EachLineTakes 80 (lines_of report)
  pub wrapped : Sheet
  pub printed : report ≡ table_text wrapped
  pub read : (row column : ℕ) → IsInside cells row column → CanBeRead cells wrapped report row column

-- ---- what wrapping leaves of a table that is wider than 80 columns

abbrev pub KeepsTexts : Table → Table → Type 0
KeepsTexts old new = IsWiderThan 80 (sheet old) → AreTexts (cells_of old) → AreTexts (cells_of new)

abbrev pub IsBest : Table → Table → Type 0
IsBest old new = IsWiderThan 80 (sheet old) → IsBestWordWrapped (sheet old) (sheet new)

-- the heights are not stored, so they are estimated
abbrev pub HasNoHeights : Table → Type 0
HasNoHeights table = heights_of table.dimension ≡ None
