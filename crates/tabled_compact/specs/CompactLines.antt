-- The lines of a compact table.
use Rattle.std.specs.Prelude.{ℕ, Bool, true, false, List, [], ◌∷◌, ◌++◌, Option, option_map, replicate}
use Rattle.std.specs.List.{flat_map, join_with_byte}
use Rattle.tabled_config.specs.declared.borders.Borders.{Borders}
use Rattle.tabled_config.specs.declared.borders.HorizontalLine.{HorizontalLine}
use Rattle.tabled_config.specs.declared.sides.Indent.{Indent}
use Rattle.tabled_config.specs.Frame.{bottom_line, if_any, inner_line, top_line}
use Rattle.tabled_line.specs.Apart.{line_total}
use Rattle.tabled_line.specs.Fill.{fill}
use Rattle.tabled_line.specs.Leading.{begun_after, break, lines_after}
use Rattle.tabled_line.specs.Row.{rule_if}
use Rattle.tabled_compact.specs.CompactCells.{CompactSheet, compact_columns, compact_row, row_front}

-- the total width: all widths, the vertical lines and the side margins
abbrev pub compact_width : CompactSheet → ℕ
compact_width t = line_total (compact_columns t)

-- the horizontal line between two rows: there is one if the inner line has any character; its ends
-- are the characters of the left and right vertical lines
abbrev pub separator : Borders ℕ → Option HorizontalLine
separator b =
    let ended : HorizontalLine → HorizontalLine = λ line. record line { left = b.left; right = b.right } in
    option_map ended (if_any (inner_line b))

-- the lines of a margin, each as wide as the table
abbrev pub margin_lines : CompactSheet → Indent → List (List ℕ)
margin_lines t side = replicate side.size (fill side.fill (compact_width t))

-- the lines above the first row: the margin and the top line
unfoldable pub head_lines : CompactSheet → List (List ℕ)
head_lines t =
    margin_lines t t.config.margin.top ++ rule_if (compact_columns t) (if_any (top_line t.config.borders))

-- the lines below the last row: the bottom line and the margin
unfoldable pub tail_lines : CompactSheet → List (List ℕ)
tail_lines t =
    rule_if (compact_columns t) (if_any (bottom_line t.config.borders))
    ++ margin_lines t t.config.margin.bottom

-- the lines above a row: the head for the first, else a separator
unfoldable pub above : CompactSheet → Bool → List (List ℕ)
above t false = head_lines t
above t true = rule_if (compact_columns t) (separator t.config.borders)

-- a row with the lines above it; `follows` if it is after another row
unfoldable pub row_part : CompactSheet → Bool → List (List ℕ) → List (List ℕ)
row_part t follows row = above t follows ++ (compact_row t row ∷ [])

-- the beginning of the text of these lines, up to a column of the row
unfoldable pub part_front : CompactSheet → Bool → List (List ℕ) → ℕ → List ℕ
part_front t follows row n =
    let lines = above t follows in
    lines_after follows lines ++ (break (begun_after follows lines) ++ row_front t row n)

-- the rows, with the lines above each
unfoldable pub rows_lines : CompactSheet → List (List (List ℕ)) → List (List ℕ)
rows_lines t [] = []
rows_lines t (row ∷ rows) = row_part t false row ++ flat_map (row_part t true) rows

-- the text of these lines
abbrev pub rows_text : CompactSheet → List (List (List ℕ)) → List ℕ
rows_text t rows = join_with_byte 10 (rows_lines t rows)

-- the lines of a table with these rows; without a row there are none
unfoldable pub compact_lines : CompactSheet → List (List (List ℕ)) → List (List ℕ)
compact_lines t [] = []
compact_lines t (row ∷ rows) = rows_lines t (row ∷ rows) ++ tail_lines t

-- the text of such a table: its lines, joined by line feeds
abbrev pub compact_text : CompactSheet → List (List (List ℕ)) → List ℕ
compact_text t rows = join_with_byte 10 (compact_lines t rows)
