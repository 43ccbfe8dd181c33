-- Blank rows of one line.
use Rattle.std.specs.Prelude.{ℕ, ◌+◌, List, Some, length}
use Rattle.tabled_config.specs.declared.borders.HorizontalLine.{HorizontalLine}
use Rattle.tabled_config.specs.declared.borders.Frame.{Frame}
use Rattle.tabled_line.specs.Row.{ColumnSheet, left_edge, rule_line}

-- the characters of a blank row, as a horizontal line: spaces, with the vertical lines at its ends
-- and intersections
abbrev pub blank_line : Frame → HorizontalLine
blank_line f = record { main = Some 32; left = Some f.left.main; intersection = Some f.inner.main; right = Some f.right.main }

-- a row whose cells are spaces
abbrev pub blank_row : ColumnSheet → List ℕ
blank_row columns = rule_line columns (blank_line columns.frame)

-- the offset of its first cell behind a line feed, in bytes
abbrev pub first_offset : ColumnSheet → ℕ
first_offset columns = 1 + length (left_edge columns.frame columns.frame.left.main)
