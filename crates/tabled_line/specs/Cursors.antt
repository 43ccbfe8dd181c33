-- Cursors in the texts of a row.
use Rattle.std.specs.Prelude.{◌≡◌, ◌+◌, ◌-◌, ◌<◌, ◌≤◌, ℕ, List, None, Some, IfSome, drop, length, slice_get}
use Rattle.std.specs.List.{slice_index_or}
use Rattle.std.specs.Option.{option_map}
use Rattle.tabled_text.specs.LineEnds.{ended_lines}
use Rattle.tabled_text.specs.declared.line_ends.LineEnds.TheVariants.{Feeds}
use Rattle.tabled_text.specs.Measure.{line_columns, lines_of, text_columns}
use Rattle.tabled_line.specs.Block.{fill_above}
use Rattle.tabled_line.specs.Row.{RowSheet}
use Rattle.tabled_line.specs.declared.cursor.Cursor.{Cursor}
use Rattle.tabled_line.specs.declared.cell_lines.TextLine.{TextLine}

-- before line `index` of a row, in which `above` lines come before the text: how many of these and
-- which lines of the text are left
pub record IsAhead (text : List ℕ) (above index : ℕ) (cursor : Cursor) : Type 0 where
  pub above_is : cursor.above ≡ above - index
  pub rest_is : ended_lines cursor.ends cursor.rest ≡ drop (index - above) (lines_of text)
  pub widest_is : cursor.widest ≡ text_columns text

-- in line `index` of a row, which has this line of the text unless it is above the text
pub record IsAt (text : List ℕ) (above index : ℕ) (cursor : Cursor) : Type 0 where
  pub ahead : IsAhead text above (index + 1) cursor
  pub line_is : above ≤ index → option_map (λ line. line.0.now) cursor.line ≡ slice_get (lines_of text) (index - above)
  pub columns_are : IfSome cursor.line (λ line. line.1 ≡ line_columns line.0.now)

-- a line of a text
pub record IsTextLine (text : List ℕ) (index : ℕ) (line : TextLine) : Type 0 where
  pub text_is : Some line.text.now ≡ slice_get (lines_of text) index
  pub columns_are : line.columns ≡ line_columns line.text.now
  pub widest_is : line.widest ≡ text_columns text

-- a cursor that isn't in a text yet
abbrev pub nowhere : Cursor
nowhere = record { above = 0; line = None; rest = None; ends = Feeds; widest = 0; ends_are = tt }

-- the cursor of a column
abbrev pub cursor_of : List Cursor → ℕ → Cursor
cursor_of cursors column = slice_index_or cursors column nowhere

-- a cursor is in the text of a cell, in line `index` of the row
abbrev pub IsCursor : RowSheet → ℕ → ℕ → Cursor → Type 0
IsCursor row index column cursor = IsAt (row.text column) (fill_above (row.style column) row.height (row.text column)) index cursor

-- the cursors of the first columns are in line `index` of the row
abbrev pub AreAt : RowSheet → ℕ → List Cursor → Type 0
AreAt row index cursors = (column : ℕ) → column < length cursors → IsCursor row index column (cursor_of cursors column)
