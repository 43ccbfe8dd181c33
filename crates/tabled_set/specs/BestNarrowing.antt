-- Tables that were narrowed as well as possible.
use Rattle.std.specs.Prelude.{◌≡◌, ◌<◌, ◌-◌, ℕ, Bool, true, false}
use Rattle.tabled_set.specs.Common.{at, cell_at, IsExactLine, IsInside, IsLongestCut, Sheet, text_columns}
use Rattle.tabled_set.specs.Truncated.{HasLongestLines}
use Rattle.tabled_set.specs.Minimums.{minimums, side_padding}
use Rattle.tabled_priority.specs.Least.{HasLeastGreatest}
use Rattle.tabled_text.specs.Breaking.{EachUnitFits, HasFewestLines}
use Rattle.tabled_text.specs.OldText.{HasOldText}
use Rattle.tabled_text.specs.WordWrap.{HasFewestWordLines, HasOldWords}

-- the content width of a cell
abbrev pub inner_width : Sheet → ℕ → ℕ → ℕ
inner_width t row column = at t.widths column - side_padding t.config row column

-- no permitted list of the same sum has a smaller maximum
abbrev pub HasLeastWidth : Sheet → Sheet → Type 0
HasLeastWidth old new = HasLeastGreatest old.widths (minimums old.cells old.config) new.widths

-- a wrapped table: no breaking of a cell's old text for its content width has fewer lines, and if
-- each unit fits, the new text is the old one with line feeds inserted
pub record IsBestWrapped (words : Bool) (old new : Sheet) : Type 0 where
  pub fewest : (row column : ℕ) → IsInside old.cells row column
      → HasFewestLines (inner_width new row column) words (cell_at old.cells row column) (cell_at new.cells row column)
  pub whole : (row column : ℕ) → IsInside old.cells row column → 0 < inner_width new row column
      → EachUnitFits (inner_width new row column) words (cell_at old.cells row column)
      → HasOldText (cell_at old.cells row column) (cell_at new.cells row column)

-- a table wrapped between words: no breaking of a cell's old text for its content width has fewer
-- lines, and if each unit fits, the new text is the old one with line feeds inserted or put in the
-- place of spaces
pub record IsBestWordWrapped (old new : Sheet) : Type 0 where
  pub fewest : (row column : ℕ) → IsInside old.cells row column
      → HasFewestWordLines (inner_width new row column) (cell_at old.cells row column) (cell_at new.cells row column)
  pub whole : (row column : ℕ) → IsInside old.cells row column → 0 < inner_width new row column
      → EachUnitFits (inner_width new row column) true (cell_at old.cells row column)
      → HasOldWords (cell_at old.cells row column) (cell_at new.cells row column)

-- a table truncated without a suffix. A cell that was too wide, and is one line whose width is the
-- sum of its characters' widths (as in plain text), becomes the longest beginning that fits. With
-- `multiline`, each such line of a cell does
pub record IsBestCut (multiline : Bool) (old new : Sheet) : Type 0 where
  pub line : multiline ≡ false → (row column : ℕ) → IsInside old.cells row column
      → IsExactLine (cell_at old.cells row column)
      → inner_width new row column < text_columns (cell_at old.cells row column)
      → IsLongestCut (inner_width new row column) (cell_at old.cells row column) (cell_at new.cells row column)
  pub lines : multiline ≡ true → (row column : ℕ) → IsInside old.cells row column
      → inner_width new row column < text_columns (cell_at old.cells row column)
      → HasLongestLines (inner_width new row column) (cell_at old.cells row column) (cell_at new.cells row column)
