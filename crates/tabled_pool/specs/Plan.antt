-- What is drawn, as a value.
use Rattle.std.specs.Prelude.{ℕ, List, Bool, ◌||◌, is_some, map}
use Rattle.tabled_config.specs.declared.borders.Borders.{Borders}
use Rattle.tabled_config.specs.declared.sides.Sides.{Sides}
use Rattle.tabled_config.specs.declared.spanned.CellStyle.{CellStyle}
use Rattle.tabled_pool.specs.Boxes.{Part, drawn_part}
use Rattle.tabled_pool.specs.Colours.{LineMarks, Mark, Around, line_marks_of, marks_of}
use Rattle.tabled_pool.specs.declared.rectangle.Rectangle.{Rectangle}
use Rattle.tabled_pool.specs.declared.color_marks.Marks.{Marks}
use Rattle.tabled_pool.specs.declared.drawing.Drawing.{Drawing}

-- parts in a drawing of `width` columns and `height` lines, and the settings that they are drawn
-- with
pub record DrawingPlan : Type 0 where
  pub parts : List Part
  pub width : ℕ
  pub height : ℕ
  pub borders : Borders ℕ
  pub style : CellStyle
  pub padding_marks : Sides Mark
  pub line_marks : LineMarks

abbrev pub whole : DrawingPlan → Rectangle
whole t = record { x = 0; y = 0; width = t.width; height = t.height }

-- there is a horizontal border if any of its characters is set
abbrev pub has_top : Borders ℕ → Bool
has_top b = is_some b.top || (is_some b.top_left || (is_some b.top_intersection || is_some b.top_right))

abbrev pub has_bottom : Borders ℕ → Bool
has_bottom b = is_some b.bottom || (is_some b.bottom_left || (is_some b.bottom_intersection || is_some b.bottom_right))

abbrev pub plan_of : Drawing → DrawingPlan
plan_of d = record {
  parts = map drawn_part d.pieces.now;
  width = d.width;
  height = d.height;
  borders = d.borders;
  style = d.style;
  padding_marks = marks_of d.padding_colors;
  line_marks = line_marks_of d.colors;
}

abbrev pub around_of : Marks → Around
around_of m = record { close = m.close.now; start = m.start.now; behind = m.behind.now }
