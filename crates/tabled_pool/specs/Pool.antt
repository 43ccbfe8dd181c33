-- The text of a pool table, and what a call that prints it leaves in a sink.
use Rattle.std.specs.Prelude.{ℕ, List, ◌++◌, map, replicate, ◌≡◌, ◌+◌, ◌^◌, ◌<◌, ◌≤◌, ◌⊎◌, ◌==◌, if◌then◌else◌, ltb, Bool, false, ◌&&◌}
use Rattle.std.specs.Prelude.{◌||◌, length, Result, Ok, Err}
use Rattle.tabled_config.specs.declared.sides.Indent.{Indent}
use Rattle.tabled_config.specs.declared.sides.Sides.{Sides}
use Rattle.tabled_line.specs.Fill.{fill, indent}
use Rattle.tabled_pool.specs.Colours.{Mark, coloured, line_marks_of, marks_of, no_mark}
use Rattle.std.specs.List.{join_with_byte}
use Rattle.tabled_base.specs.declared.error.TableError.{TableError}
use Rattle.tabled_base.specs.declared.error.TableError.TheVariants.{Memory, Range}
use Rattle.tabled_priority.specs.Sums.{one_if}
use Rattle.tabled_config.specs.declared.borders.Borders.{Borders}
use Rattle.tabled_config.specs.declared.compact.CompactMultilineConfig.{CompactMultilineConfig}
use Rattle.tabled_config.specs.declared.spanned.CellStyle.{CellStyle}
use Rattle.tabled_config.specs.Compact.{each_side, no_indent}
use Rattle.tabled_config.specs.Frame.{has_left, has_right}
use Rattle.tabled_line.specs.Sent.{Sent, Sends, Stops}
use Rattle.tabled_pool.specs.declared.sizes.BoxSpacing.{BoxSpacing}
use Rattle.tabled_pool.specs.declared.rectangle.Rectangle.{Rectangle}
use Rattle.tabled_pool.specs.Boxes.{box_of, framed}
use Rattle.tabled_pool.specs.Inherited.{inherited_block, has_zero_width, BlockSheet}
use Rattle.tabled_pool.specs.Plan.{DrawingPlan, has_bottom, has_top}
use Rattle.tabled_pool.specs.declared.pool_table.PoolTable.{PoolTable}
use Rattle.tabled_pool.specs.Drawn.{drawn}

-- a line between the side margins
abbrev pub within_margin : Sides Indent → Sides Mark → List ℕ → List ℕ
within_margin margin marks line =
    coloured marks.left (indent margin.left) ++ (line ++ coloured marks.right (indent margin.right))

-- a line of the top or bottom margin, `width` columns between the side margins
abbrev pub margin_line : Sides Indent → Sides Mark → Mark → ℕ → ℕ → List ℕ
margin_line margin marks mark c width = within_margin margin marks (coloured mark (fill c width))

-- lines of `width` columns with the margin around them
abbrev pub with_margin : Sides Indent → Sides Mark → ℕ → List (List ℕ) → List (List ℕ)
with_margin margin marks width lines =
    replicate margin.top.size (margin_line margin marks marks.top margin.top.fill width)
    ++ (map (within_margin margin marks) lines
    ++ replicate margin.bottom.size (margin_line margin marks marks.bottom margin.bottom.fill width))

abbrev pub borders_of : PoolTable → Borders ℕ
borders_of t = t.config.config.borders

-- the thickness of each outer border: one column or line if it is there, else 0
abbrev pub frame_of : Borders ℕ → Sides ℕ
frame_of b =
    record { left = one_if (has_left b); right = one_if (has_right b); top = one_if (has_top b); bottom = one_if (has_bottom b) }

-- there is a border between boxes side by side if there is a left one, and between boxes below each
-- other if there is a top one
abbrev pub spacing_of : PoolTable → BoxSpacing
spacing_of t =
    record {
      padding = t.config.config.padding;
      bar = one_if (has_left (borders_of t));
      rule = one_if (has_top (borders_of t));
      across = t.dimension.width;
      down = t.dimension.height;
    }

abbrev pub style_of : CompactMultilineConfig → CellStyle
style_of c =
    record {
      padding = c.config.padding;
      horizontal = c.config.alignment_horizontal;
      vertical = c.alignment_vertical;
      line_alignment = c.formatting.allow_lines_alignment;
    }

-- the width and height within the margin: the boxes and the outer borders
abbrev pub framed_width : PoolTable → ℕ
framed_width t =
    (frame_of (borders_of t)).left + (box_of (spacing_of t) t.value).width + (frame_of (borders_of t)).right

abbrev pub framed_height : PoolTable → ℕ
framed_height t =
    (frame_of (borders_of t)).top + (box_of (spacing_of t) t.value).height + (frame_of (borders_of t)).bottom

abbrev pub frame_place : PoolTable → Rectangle
frame_place t = record { x = 0; y = 0; width = framed_width t; height = framed_height t }

-- the boxes with the outer borders
unfoldable pub plan : PoolTable → DrawingPlan
plan t =
    record {
      parts = framed (frame_of (borders_of t)) (box_of (spacing_of t) t.value) (frame_place t);
      width = framed_width t;
      height = framed_height t;
      borders = borders_of t;
      style = style_of t.config;
      padding_marks = marks_of t.config.config.padding_color;
      line_marks = line_marks_of t.config.config.borders_color;
    }

abbrev pub margin_of : PoolTable → Sides Indent
margin_of t = t.config.config.margin

-- an empty margin has no colours
abbrev pub has_margin : Sides Indent → Bool
has_margin m = ltb 0 m.left.size || (ltb 0 m.right.size || (ltb 0 m.top.size || ltb 0 m.bottom.size))

abbrev pub marks_for : PoolTable → Sides Indent → Sides Mark
marks_for t m = if has_margin m then marks_of t.config.config.margin_color else each_side no_mark

abbrev pub margin_marks : PoolTable → Sides Mark
margin_marks t = marks_for t (margin_of t)

abbrev pub total_width : PoolTable → ℕ
total_width t = (margin_of t).left.size + framed_width t + (margin_of t).right.size

abbrev pub total_height : PoolTable → ℕ
total_height t = (margin_of t).top.size + framed_height t + (margin_of t).bottom.size

-- each text has at least one column
abbrev pub HasColumns : PoolTable → Type 0
HasColumns t = has_zero_width (plan t).parts ≡ false

-- each text has side padding
abbrev pub IsPadded : PoolTable → Type 0
IsPadded t = 0 < t.config.config.padding.left.size + t.config.config.padding.right.size

-- the margin around a block; one empty line has none
abbrev pub margin_around : PoolTable → BlockSheet → Sides Indent
margin_around t p = if p.width == 0 && length p.lines == 1 then each_side no_indent else margin_of t

abbrev pub margined : PoolTable → BlockSheet → List (List ℕ)
margined t p = with_margin (margin_around t p) (marks_for t (margin_around t p)) p.width p.lines

-- drawn box by box if a text has zero width, else position by position
unfoldable pub pool_lines : PoolTable → List (List ℕ)
pool_lines t =
    if has_zero_width (plan t).parts
    then margined t (inherited_block (plan t) (spacing_of t) t.value)
    else with_margin (margin_of t) (margin_marks t) (framed_width t) (drawn (plan t))

unfoldable pub pool_text : PoolTable → List ℕ
pool_text t = join_with_byte 10 (pool_lines t)

-- the totals fit in `usize`
pub record IsInRange (t : PoolTable) : Type 0 where
  pub width : total_width t < 2 ^ 64
  pub height : total_height t < 2 ^ 64

-- a total exceeds `usize::MAX`
abbrev pub IsOutOfRange : PoolTable → Type 0
IsOutOfRange t = (2 ^ 64 ≤ total_width t) ⊎ (2 ^ 64 ≤ total_height t)

-- what a call that prints a pool table leaves. On `Ok` its text was added. It fails before the
-- first byte with `Range`, exactly if a total exceeds `usize::MAX`, or with `Memory`. If the sink
-- fails, a beginning of the text was added
abbrev pub WritesPool : {T : Type 0} → PoolTable → Sent → Result T TableError → Sent → Type 0
WritesPool t old (Ok _) new = IsInRange t × Sends old new (pool_text t)
WritesPool t old (Err e) new =
    ((e ≡ Range) × IsOutOfRange t × (new ≡ old))
    ⊎ (IsInRange t × (((e ≡ Memory) × (new ≡ old)) ⊎ Stops old e new (pool_text t)))
