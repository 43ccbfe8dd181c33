-- Which lines of a frame are drawn, and their characters.
use Rattle.std.specs.Prelude.{ℕ, ◌==◌, if◌then◌else◌, Bool, false, ◌||◌, Option, Some, None, is_some, unwrap_or}
use Rattle.tabled_config.specs.declared.borders.Borders.{Borders}
use Rattle.tabled_config.specs.declared.borders.HorizontalLine.{HorizontalLine}
use Rattle.tabled_config.specs.declared.borders.Frame.{Frame}
use Rattle.tabled_config.specs.declared.borders.VerticalLine.{VerticalLine}
use Rattle.tabled_config.specs.declared.sides.Indent.{Indent}
use Rattle.tabled_config.specs.declared.sides.Sides.{Sides}

-- no lines
abbrev pub no_borders : {T : Type 0} → Borders T
no_borders =
    record {
      top = None;
      top_left = None;
      top_right = None;
      top_intersection = None;
      bottom = None;
      bottom_left = None;
      bottom_right = None;
      bottom_intersection = None;
      horizontal = None;
      vertical = None;
      left = None;
      right = None;
      left_intersection = None;
      right_intersection = None;
      intersection = None;
    }

-- a vertical line is drawn if any of its characters is set
abbrev pub has_left : Borders ℕ → Bool
has_left b = is_some b.left || (is_some b.top_left || (is_some b.bottom_left || is_some b.left_intersection))

abbrev pub has_right : Borders ℕ → Bool
has_right b = is_some b.right || (is_some b.top_right || (is_some b.bottom_right || is_some b.right_intersection))

abbrev pub has_inner : Borders ℕ → Bool
has_inner b = is_some b.vertical || (is_some b.intersection || (is_some b.top_intersection || is_some b.bottom_intersection))

-- a vertical line with its character in the lines of rows, a space if none is set
abbrev pub vertical_line : Bool → Option ℕ → VerticalLine
vertical_line there c = record { there = there; main = unwrap_or c 32 }

-- the margin and the vertical lines
abbrev pub frame_of : Borders ℕ → Sides Indent → Frame
frame_of b margin = record {
  margin = margin;
  left = vertical_line (has_left b) b.left;
  inner = vertical_line (has_inner b) b.vertical;
  right = vertical_line (has_right b) b.right;
}

-- whether a vertical line separates a column from the one before it
abbrev pub has_bar : Frame → ℕ → Bool
has_bar frame column = if column == 0 then false else frame.inner.there

-- the characters of the three horizontal lines
abbrev pub top_line : Borders ℕ → HorizontalLine
top_line b = record { main = b.top; left = b.top_left; intersection = b.top_intersection; right = b.top_right }

abbrev pub inner_line : Borders ℕ → HorizontalLine
inner_line b = record { main = b.horizontal; left = b.left_intersection; intersection = b.intersection; right = b.right_intersection }

abbrev pub bottom_line : Borders ℕ → HorizontalLine
bottom_line b = record { main = b.bottom; left = b.bottom_left; intersection = b.bottom_intersection; right = b.bottom_right }

-- a line of one character, with spaces where it meets vertical lines
abbrev pub line_of : ℕ → HorizontalLine
line_of main = record { main = Some main; left = None; intersection = None; right = None }

-- a horizontal line is drawn if any of its characters is set
abbrev pub if_any : HorizontalLine → Option HorizontalLine
if_any l = if is_some l.main || (is_some l.left || (is_some l.intersection || is_some l.right)) then Some l else None

-- the borders' line above row i of `rows` rows, or below the last row for i = rows
abbrev pub border_at : Borders ℕ → ℕ → ℕ → Option HorizontalLine
border_at b rows i = if i == 0 then if_any (top_line b) else (if i == rows then if_any (bottom_line b) else if_any (inner_line b))
