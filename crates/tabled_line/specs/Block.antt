-- The block of a cell: the lines of its text, in a width and a height.
use Rattle.std.specs.Prelude.{ℕ, ◌+◌, ◌-◌, ◌/◌, if◌then◌else◌, List, ◌++◌, length, take, map, replicate}
use Rattle.tabled_text.specs.Measure.{line_columns, lines_of, text_columns}
use Rattle.tabled_config.specs.declared.alignment.AlignmentHorizontal.{AlignmentHorizontal}
use Rattle.tabled_config.specs.declared.alignment.AlignmentHorizontal.TheVariants as horizontal
use Rattle.tabled_config.specs.declared.alignment.AlignmentVertical.{AlignmentVertical}
use Rattle.tabled_config.specs.declared.alignment.AlignmentVertical.TheVariants as vertical
use Rattle.tabled_config.specs.declared.spanned.CellStyle.{CellStyle}
use Rattle.tabled_line.specs.Fill.{fill, indent}

-- how many of the free columns come before a text
abbrev pub before_text : AlignmentHorizontal → ℕ → ℕ
before_text horizontal.Left free = 0
before_text horizontal.Center free = free / 2
before_text horizontal.Right free = free

-- how many of the free lines come above a text
abbrev pub above_text : AlignmentVertical → ℕ → ℕ
above_text vertical.Top free = 0
above_text vertical.Center free = free / 2
above_text vertical.Bottom free = free

-- the content width: the columns that side padding leaves for the text
abbrev pub inner_width : CellStyle → ℕ → ℕ
inner_width style width = width - style.padding.left.size - style.padding.right.size

-- the columns before a line: by the width of the whole text, or by that of the line
abbrev pub columns_before : CellStyle → ℕ → List ℕ → List ℕ → ℕ
columns_before style room text line =
    before_text style.horizontal (room - (if style.line_alignment then line_columns line else text_columns text))

-- a line of a cell's text: left padding, spaces, the line, spaces, right padding
unfoldable pub cell_line : CellStyle → ℕ → List ℕ → List ℕ → List ℕ
cell_line style width text line =
    let room = inner_width style width in
    let before = columns_before style room text line in
    indent style.padding.left
    ++ (fill 32 before ++ (line ++ (fill 32 (room - before - line_columns line) ++ indent style.padding.right)))

-- the lines that are free for alignment
abbrev pub free_lines : CellStyle → ℕ → List ℕ → ℕ
free_lines style height text = height - length (lines_of text) - style.padding.top.size - style.padding.bottom.size

-- the lines above the text: top padding, and a part of the free lines
abbrev pub fill_above : CellStyle → ℕ → List ℕ → ℕ
fill_above style height text = style.padding.top.size + above_text style.vertical (free_lines style height text)

-- the lines below the text: bottom padding, and the rest of the free lines
abbrev pub fill_below : CellStyle → ℕ → List ℕ → ℕ
fill_below style height text =
    let free = free_lines style height text in style.padding.bottom.size + (free - above_text style.vertical free)

-- the lines above the text, the lines of the text, and the lines below it, cut to the height
unfoldable pub block : CellStyle → ℕ → ℕ → List ℕ → List (List ℕ)
block style width height text =
    take height
    (replicate (fill_above style height text) (fill style.padding.top.fill width)
    ++ (map (cell_line style width text) (lines_of text)
    ++ replicate (fill_below style height text) (fill style.padding.bottom.fill width)))
