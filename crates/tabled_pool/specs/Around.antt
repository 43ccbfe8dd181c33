-- The marks around a border character. Each text colours the borders above it and to its left, with
-- their corner; at the edges of the table also those below it and to its right.
use Rattle.std.specs.Prelude.{ℕ, ◌+◌, ◌==◌, ltb, leb, if◌then◌else◌, Bool, ◌&&◌, List, [], ◌∷◌, Option, Some, None, unwrap_or}
use Rattle.tabled_config.specs.Frame.{has_left, has_right}
use Rattle.tabled_pool.specs.declared.rectangle.Rectangle.{Rectangle}
use Rattle.tabled_pool.specs.Boxes.{Part, is_line_kind}
use Rattle.tabled_pool.specs.Colours.{Mark, Around, alone, begun, ended, nothing_around, used_after}
use Rattle.tabled_pool.specs.Plan.{DrawingPlan, has_bottom, has_top}
use Rattle.tabled_pool.specs.declared.color_marks.RunSide.{RunSide}
use Rattle.tabled_pool.specs.declared.color_marks.RunSide.TheVariants.{Before, Inside, Behind, Outside}

-- where a position is relative to `size` columns or lines from `start` on
abbrev pub run_side : ℕ → ℕ → ℕ → RunSide
run_side start size at =
    if at + 1 == start then Before else if leb start at && ltb at (start + size) then Inside else if at == start + size then Behind else Outside

-- whether the right or bottom border of a text is the outer one
abbrev pub is_last_column : DrawingPlan → Rectangle → Bool
is_last_column t r = has_right t.borders && (r.x + r.width + 1 == t.width)

abbrev pub is_last_row : DrawingPlan → Rectangle → Bool
is_last_row t r = has_bottom t.borders && (r.y + r.height + 1 == t.height)

-- the colour of a left corner, if there is a left border
abbrev pub written_corner : DrawingPlan → Option Mark → Option Mark
written_corner t corner = if has_left t.borders then corner else None

-- the current colour above or below a text: that of the left corner if it is written, else the main
-- one
abbrev pub used_main : DrawingPlan → Option Mark → Option Mark → Option Mark
used_main t corner main = used_after (written_corner t corner) main

-- above or below a text: the main part starts at the first column, and ends the border at the last
-- one, unless a right corner follows
abbrev pub main_around : DrawingPlan → Option Mark → Option Mark → Rectangle → ℕ → Around
main_around t corner main r x =
    let first = if x == r.x then begun (written_corner t corner) main else nothing_around in
    record first {
      behind = if is_last_column t r then [] else if r.x + r.width == x + 1 then ended (used_main t corner main) else [];
    }

-- the right corner starts a part and ends the border
abbrev pub right_around : DrawingPlan → Option Mark → Option Mark → Option Mark → Around
right_around t corner main right =
    record (begun (used_main t corner main) right) { behind = ended (used_after (used_main t corner main) right) }

-- on the top or bottom border of a text
abbrev pub across : DrawingPlan → Option Mark → Option Mark → Option Mark → Rectangle → RunSide → ℕ → Option Around
across t corner main right r Before x = if has_left t.borders then Some (begun None corner) else None
across t corner main right r Inside x = Some (main_around t corner main r x)
across t corner main right r Behind x =
    if is_last_column t r then Some (right_around t corner main right) else None
across t corner main right r Outside x = None

-- beside a text
abbrev pub beside : DrawingPlan → Rectangle → RunSide → Option Around
beside t r Before = if has_left t.borders then Some (alone t.line_marks.left) else None
beside t r Inside = None
beside t r Behind = if is_last_column t r then Some (alone t.line_marks.right) else None
beside t r Outside = None

-- around a text: above it, at its sides or below it
abbrev pub around_text : DrawingPlan → Rectangle → RunSide → ℕ → Option Around
around_text t r Before x =
    if has_top t.borders then across t t.line_marks.top_left t.line_marks.top t.line_marks.top_right r (run_side r.x r.width x) x else None
around_text t r Inside x = beside t r (run_side r.x r.width x)
around_text t r Behind x =
    if is_last_row t r
    then across t t.line_marks.bottom_left t.line_marks.bottom t.line_marks.bottom_right r (run_side r.x r.width x) x
    else None
around_text t r Outside x = None

abbrev pub around_part : DrawingPlan → Part → ℕ → ℕ → Option Around
around_part t p x y = if is_line_kind p.kind then None else around_text t p.place (run_side p.place.y p.place.height y) x

-- the marks around a position: those of the first text that draws it
abbrev pub around_at : DrawingPlan → List Part → ℕ → ℕ → Around
around_at t [] x y = nothing_around
around_at t (p ∷ ps) x y = unwrap_or (around_part t p x y) (around_at t ps x y)
