-- The block of a text in its box. The lines that alignment adds are spaces, outside of the padding.
use Rattle.std.specs.Prelude.{ℕ, ◌-◌, ltb, if◌then◌else◌, List, ◌++◌, map, replicate, []}
use Rattle.tabled_text.specs.Measure.{lines_of}
use Rattle.tabled_config.specs.declared.sides.Sides.{Sides}
use Rattle.tabled_config.specs.Compact.{no_indent}
use Rattle.tabled_config.specs.declared.spanned.CellStyle.{CellStyle}
use Rattle.tabled_line.specs.Block.{above_text, free_lines, cell_line, inner_width}
use Rattle.tabled_line.specs.Fill.{fill, indent}
use Rattle.tabled_pool.specs.Colours.{Mark, coloured}
use Rattle.std.specs.List.{slice_index_or}
use Rattle.tabled_pool.specs.Boxes.{Part}
use Rattle.tabled_pool.specs.Plan.{DrawingPlan}

-- how many lines alignment adds above the text
abbrev pub lines_above : CellStyle → ℕ → List ℕ → ℕ
lines_above style height text = above_text style.vertical (free_lines style height text)

-- a line below the text: the bottom padding first, then spaces
abbrev pub line_below : CellStyle → Sides Mark → ℕ → ℕ → List ℕ
line_below style marks width index =
    if ltb index style.padding.bottom.size then coloured marks.bottom (fill style.padding.bottom.fill width) else fill 32 width

-- a style without side padding
abbrev pub without_sides : CellStyle → CellStyle
without_sides style = record style { padding = record style.padding { left = no_indent; right = no_indent } }

-- a line of the text: left padding, the line in the content width, right padding
abbrev pub text_line : CellStyle → Sides Mark → ℕ → List ℕ → List ℕ → List ℕ
text_line style marks width text line =
    coloured marks.left (indent style.padding.left)
    ++ (cell_line (without_sides style) (inner_width style width) text line ++ coloured marks.right (indent style.padding.right))

-- spaces, top padding, the lines of the text, bottom padding, spaces
unfoldable pub pool_block : CellStyle → Sides Mark → ℕ → ℕ → List ℕ → List (List ℕ)
pool_block style marks width height text =
    let above = lines_above style height text in
    replicate above (fill 32 width)
    ++ (replicate style.padding.top.size (coloured marks.top (fill style.padding.top.fill width))
    ++ (map (text_line style marks width text) (lines_of text)
    ++ (replicate style.padding.bottom.size (coloured marks.bottom (fill style.padding.bottom.fill width))
    ++ replicate (free_lines style height text - above) (fill 32 width))))

unfoldable pub leaf_line : DrawingPlan → Part → ℕ → List ℕ
leaf_line t p k = slice_index_or (pool_block t.style t.padding_marks p.place.width p.place.height p.text) k []
