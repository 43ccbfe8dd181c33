-- The lines of a drawing, and runs of columns that are written at once. At each position a line of a
-- text's block starts, or one border character is written with its colour.
use Rattle.std.specs.Prelude.{ℕ, ◌+◌, ◌-◌, ◌==◌, if◌then◌else◌, Bool, ◌&&◌, ◌||◌, List, [], map, Option, Some, None, unwrap_or, encode_utf8}
use Rattle.std.specs.Prelude.{◌≡◌, ◌<◌, ◌≤◌, true, ◌++◌}
use Rattle.std.specs.List.{range_with_len, flat_map}
use Rattle.tabled_pool.specs.declared.rectangle.Rectangle.{Rectangle}
use Rattle.tabled_pool.specs.declared.kind.Kind.{Kind}
use Rattle.tabled_pool.specs.declared.kind.Kind.TheVariants.{Leaf, Bar, Rule}
use Rattle.tabled_pool.specs.Boxes.{Part, is_line_kind, owner, is_border, is_border_before, is_border_above, drawn_part, covering}
use Rattle.tabled_config.specs.Frame.{has_right}
use Rattle.tabled_config.specs.Junction.{junction}
use Rattle.tabled_pool.specs.Block.{leaf_line}
use Rattle.tabled_pool.specs.Colours.{within_marks}
use Rattle.tabled_pool.specs.Plan.{DrawingPlan, has_bottom}
use Rattle.tabled_pool.specs.Around.{around_at}
use Rattle.std.specs.Option.{option_map}
use Rattle.tabled_pool.specs.declared.line_runs.Cursor.{Cursor}
use Rattle.tabled_pool.specs.declared.line_runs.Run.{Run}
use Rattle.tabled_text.specs.Measure.{line_columns}

-- the character of a border where no other meets it; the outer right and bottom borders have their
-- own
abbrev pub main_of : DrawingPlan → Kind → Rectangle → Option ℕ
main_of t Leaf r = None
main_of t Bar r = if has_right t.borders && (r.x + r.width == t.width) then t.borders.right else t.borders.left
main_of t Rule r = if has_bottom t.borders && (r.y + r.height == t.height) then t.borders.bottom else t.borders.top

-- the character of a border with an arm to each side where a border is
abbrev pub armed_char : DrawingPlan → Kind → Rectangle → Bool → Bool → Bool → Bool → ℕ
armed_char t k r left right up down =
    unwrap_or (if (left || right) && (up || down) then junction t.borders left right up down else main_of t k r) 32

-- a position with a border at its left or right and one above or below is a junction, with an arm
-- to each such side
unfoldable pub border_char : DrawingPlan → Kind → Rectangle → ℕ → ℕ → ℕ
border_char t k r x y =
    let left = is_border_before t.parts x y in
    let right = is_border t.parts (x + 1) y in
    let up = is_border_above t.parts x y in
    let down = is_border t.parts x (y + 1) in
    unwrap_or (if (left || right) && (up || down) then junction t.borders left right up down else main_of t k r) 32

-- a border character between its marks
unfoldable pub border_text : DrawingPlan → Kind → Rectangle → ℕ → ℕ → List ℕ
border_text t k r x y = within_marks (around_at t t.parts x y) (encode_utf8 (border_char t k r x y))

abbrev pub part_text : DrawingPlan → Kind → Part → ℕ → ℕ → List ℕ
part_text t Leaf p x y = if p.place.x == x then leaf_line t p (y - p.place.y) else []
part_text t Bar p x y = border_text t Bar p.place x y
part_text t Rule p x y = border_text t Rule p.place x y

abbrev pub owned_text : DrawingPlan → Option Part → ℕ → ℕ → List ℕ
owned_text t None x y = []
owned_text t (Some p) x y = part_text t p.kind p x y

-- what is written at a position
unfoldable pub place_text : DrawingPlan → ℕ → ℕ → List ℕ
place_text t y x = owned_text t (owner t.parts x y) x y

unfoldable pub drawn_line : DrawingPlan → ℕ → List ℕ
drawn_line t y = flat_map (place_text t y) (range_with_len 0 t.width)

unfoldable pub drawn : DrawingPlan → List (List ℕ)
drawn t = map (drawn_line t) (range_with_len 0 t.height)

-- ---- drawn lines in which each part is in its rectangle

-- a piece is in a line, after x columns
pub record StandsAt (line : List ℕ) (x : ℕ) (piece : List ℕ) : Type 0 where
  pub front : List ℕ
  pub rest : List ℕ
  pub whole : line ≡ front ++ (piece ++ rest)
  pub columns : line_columns front ≡ x

-- each position of the drawing is in exactly one part; the lines of a text's block are in its
-- rectangle, and each other position has one border character, which depends on the borders that
-- meet there
pub record Tiled (t : DrawingPlan) : Type 0 where
  pub once : (x y : ℕ) → x < t.width → y < t.height → covering t.parts x y ≡ 1
  pub leaf : (u v y : ℕ) (p : Part) → owner t.parts u v ≡ Some p → p.kind ≡ Leaf → p.place.y ≤ y
      → y < p.place.y + p.place.height → StandsAt (drawn_line t y) p.place.x (leaf_line t p (y - p.place.y))
  pub border : (x y : ℕ) (p : Part) → x < t.width → y < t.height → owner t.parts x y ≡ Some p → is_line_kind p.kind
      ≡ true → StandsAt (drawn_line t y) x (encode_utf8 (border_char t p.kind p.place x y))

-- ---- Of private steps: no public call promises this.

-- `count` columns from x on belong to one part; if it is a border, each has the character c
pub record IsRun (t : DrawingPlan) (x y count c : ℕ) (p : Part) : Type 0 where
  pub some : 0 < count
  pub within : x + count ≤ t.width
  pub owned : (v : ℕ) → x ≤ v → v < x + count → owner t.parts v y ≡ Some p
  pub alike : is_line_kind p.kind ≡ true → (v : ℕ) → x ≤ v → v < x + count → border_char t p.kind p.place v y ≡ c

-- the piece at a column, whether a border is before it, and which are above and below from there on
pub record IsAt (t : DrawingPlan) (y : ℕ) (at : Cursor) : Type 0 where
  pub within : at.x ≤ t.width
  pub piece : option_map (λ p. drawn_part p.now) at.piece ≡ owner t.parts at.x y
  pub left : at.left ≡ is_border_before t.parts at.x y
  pub up : (v : ℕ) → at.x ≤ v → v < at.up.end → is_border_above t.parts v y ≡ at.up.border
  pub down : (v : ℕ) → at.x ≤ v → v < at.down.end → is_border t.parts v (y + 1) ≡ at.down.border

-- the run from a column on, and the column after it
pub record RunsFrom (t : DrawingPlan) (y : ℕ) (at : Cursor) (r : Run) (after : Cursor) : Type 0 where
  pub run : IsRun t at.x y r.count r.c (drawn_part r.piece.now)
  pub next : IsAt t y after
  pub behind : after.x ≡ at.x + r.count
