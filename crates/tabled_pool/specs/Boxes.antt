-- Boxes: the size that each needs, the parts that fill a rectangle, and which part is at a position.
use Rattle.std.specs.Prelude.{◌≡◌, ℕ, ◌+◌, ◌-◌, ◌^◌, ◌≤◌, ◌⊎◌, if◌then◌else◌, max, List, [], ◌∷◌, ◌++◌, length, Option, Some, None}
use Rattle.std.specs.Prelude.{string_bytes, ◌==◌, Bool, true, false, ◌<◌, map, ◌*◌, ltb, leb, ◌&&◌, zero, suc}
use Rattle.std.specs.Int.{div_ceil}
use Rattle.tabled_text.specs.Measure.{lines_of, text_columns}
use Rattle.tabled_size.specs.declared.complete_dimension.DimensionPriority.{DimensionPriority}
use Rattle.tabled_size.specs.declared.complete_dimension.DimensionPriority.TheVariants.{First, Last, List as Each}
use Rattle.tabled_pool.specs.declared.sizes.BoxSpacing.{BoxSpacing}
use Rattle.tabled_pool.specs.declared.sizes.Direction.{Direction}
use Rattle.tabled_pool.specs.declared.sizes.Direction.TheVariants.{Across, Down}
use Rattle.tabled_pool.specs.declared.sizes.Size.{Size}
use Rattle.tabled_pool.specs.declared.rectangle.Rectangle.{Rectangle}
use Rattle.tabled_pool.specs.declared.kind.Kind.{Kind}
use Rattle.tabled_pool.specs.declared.kind.Kind.TheVariants.{Leaf, Bar, Rule}
use Rattle.tabled_pool.specs.declared.tree.TableValue.{TableValue}
use Rattle.tabled_pool.specs.declared.tree.TableValue.TheOpen.{TableValue-F, Row, Column, Cell}
use Rattle.tabled_pool.specs.declared.tree.TableValue.TheFolds.{fold-TableValue}
use Rattle.tabled_pool.specs.PieceText.{piece_text}
use Rattle.tabled_pool.specs.declared.piece.Piece.{Piece}
use Rattle.tabled_pool.specs.declared.rectangle.BoxesLeft.{BoxesLeft}
use Rattle.tabled_config.specs.declared.sides.Sides.{Sides}

-- a text, or a border between boxes
pub record Part : Type 0 where
  pub kind : Kind
  pub place : Rectangle
  pub text : List ℕ

pub record Box : Type 0 where
  pub width : ℕ
  pub height : ℕ
  pub parts : Rectangle → List Part

abbrev pub part_of : Kind → Rectangle → List ℕ → Part
part_of k r text = record { kind = k; place = r; text = text }

-- what the first of k boxes gets of a surplus
abbrev pub share : DimensionPriority → ℕ → ℕ → ℕ
share First surplus k = surplus
share Last surplus k = 0
share Each surplus k = div_ceil surplus k

-- ---- by direction: side by side or below each other

abbrev pub pick : {A : Type 0} → Direction → A → A → A
pick Across a b = a
pick Down a b = b

-- the first n columns or lines of a rectangle, and those after them
abbrev pub first_part : Direction → ℕ → Rectangle → Rectangle
first_part Across n r = record r { width = n }
first_part Down n r = record r { height = n }

abbrev pub rest_part : Direction → ℕ → Rectangle → Rectangle
rest_part Across n r = record r { x = r.x + n; width = r.width - n }
rest_part Down n r = record r { y = r.y + n; height = r.height - n }

-- sizes in a direction, and in the other one
abbrev pub box_along : Direction → Box → ℕ
box_along d b = pick d b.width b.height

abbrev pub box_across : Direction → Box → ℕ
box_across d b = pick d b.height b.width

abbrev pub place_along : Direction → Rectangle → ℕ
place_along d r = pick d r.width r.height

abbrev pub place_across : Direction → Rectangle → ℕ
place_across d r = pick d r.height r.width

-- the thickness of a border between boxes, and what it is
abbrev pub border_size : Direction → BoxSpacing → ℕ
border_size d g = pick d g.bar g.rule

abbrev pub border_kind : Direction → Kind
border_kind d = pick d Bar Rule

abbrev pub priority_of : Direction → BoxSpacing → DimensionPriority
priority_of d g = pick d g.across g.down

-- ---- boxes one after another

-- the size that the first of `count` boxes is given, of `size` columns or lines where all need
-- `needed`: its own and its share of the surplus; the last box gets what is left
abbrev pub given_size : Direction → BoxSpacing → Box → ℕ → ℕ → ℕ → ℕ
given_size d g b size needed count = box_along d b + share (priority_of d g) (size - needed) count

-- the border after the first n columns or lines, and the rectangle behind it
abbrev pub border_part : Direction → BoxSpacing → ℕ → Rectangle → Part
border_part d g n r = part_of (border_kind d) (first_part d (border_size d g) (rest_part d n r)) []

abbrev pub behind_border : Direction → BoxSpacing → ℕ → Rectangle → Rectangle
behind_border d g n r = rest_part d (border_size d g) (rest_part d n r)

-- the first of `count` boxes, and the box of the others
abbrev pub needed_by : Direction → BoxSpacing → Box → Box → ℕ
needed_by d g b c = box_along d b + (border_size d g + box_along d c)

abbrev pub joined_parts : Direction → BoxSpacing → Box → Box → ℕ → Rectangle → List Part
joined_parts d g b c n r = b.parts (first_part d n r) ++ (border_part d g n r ∷ c.parts (behind_border d g n r))

abbrev pub joined_box : Direction → BoxSpacing → ℕ → Box → Box → Box
joined_box d g count b c =
    let along = needed_by d g b c in
    let across = max (box_across d b) (box_across d c) in
    record {
      width = pick d along across;
      height = pick d across along;
      parts = λ r. joined_parts d g b c (given_size d g b (place_along d r) along count) r;
    }

abbrev pub leaf_box : BoxSpacing → List ℕ → Box
leaf_box g text = record {
  width = text_columns text + (g.padding.left.size + g.padding.right.size);
  height = length (lines_of text) + (g.padding.top.size + g.padding.bottom.size);
  parts = λ r. part_of Leaf r text ∷ [];
}

abbrev pub list_box : Direction → BoxSpacing → List Box → Box
list_box d g [] = leaf_box g []
list_box d g (b ∷ []) = b
list_box d g (b ∷ (c ∷ bs)) = joined_box d g (length (c ∷ bs) + 1) b (list_box d g (c ∷ bs))

-- the box of a node, from the boxes of its children
abbrev pub box_step : BoxSpacing → TableValue-F Box → Box
box_step g (Cell s) = leaf_box g (string_bytes s)
box_step g (Row v) = list_box Across g v.items
box_step g (Column v) = list_box Down g v.items

abbrev pub box_of : BoxSpacing → TableValue → Box
box_of g = fold-TableValue Box (box_step g)

abbrev pub sized : Size → Box
sized s = record { width = s.width; height = s.height; parts = λ r. [] }

abbrev pub IsSize : Option Size → Box → Type 0
IsSize None b = (2 ^ 64 ≤ b.width) ⊎ (2 ^ 64 ≤ b.height)
IsSize (Some s) b = (s.width ≡ b.width) × (s.height ≡ b.height)

abbrev pub is_line_kind : Kind → Bool
is_line_kind Leaf = false
is_line_kind Bar = true
is_line_kind Rule = true

-- ---- Of private steps: no public call promises this.
-- Pieces as parts, and which rectangles are large enough for a box

abbrev pub drawn_part : Piece → Part
drawn_part p = part_of p.kind p.place (piece_text p.kind p.value.now)

pub record Fits (b : Box) (r : Rectangle) : Type 0 where
  pub wide : b.width ≤ r.width
  pub tall : b.height ≤ r.height
  pub right : r.x + r.width < 2 ^ 64
  pub low : r.y + r.height < 2 ^ 64

-- The boxes that are still to be placed

-- the first of them, of box b, can be split off a rectangle
pub record CanSplit (d : Direction) (g : BoxSpacing) (b : Box) (left : BoxesLeft) (r : Rectangle) : Type 0 where
  pub some : 0 < left.count
  pub own : box_along d b + border_size d g ≤ left.size
  pub across : box_across d b ≤ place_across d r
  pub along : left.size ≤ place_along d r
  pub right : r.x + r.width < 2 ^ 64
  pub low : r.y + r.height < 2 ^ 64

-- the size that it is given there
abbrev pub given_in : Direction → BoxSpacing → Box → BoxesLeft → Rectangle → ℕ
given_in d g b left r = given_size d g b (place_along d r) left.size left.count

abbrev pub boxes_left : BoxSpacing → List TableValue → TableValue → List Box
boxes_left g front last = map (box_of g) front ++ (box_of g last ∷ [])

-- what boxes that are left need, and how many they are
pub record AreLeft (d : Direction) (g : BoxSpacing) (boxes : List Box) (left : BoxesLeft) : Type 0 where
  pub size : left.size ≡ box_along d (list_box d g boxes)
  pub count : left.count ≡ length boxes

pub record Placing (whole now : Box) (r place : Rectangle) (before pieces : List Piece) : Type 0 where
  pub parts : map drawn_part pieces ++ now.parts place ≡ map drawn_part before ++ whole.parts r
  pub fits : Fits now place

-- ---- which parts cover a position

-- 1 if p is one of the n numbers from a on, else 0
unfoldable pub spans : ℕ → ℕ → ℕ → ℕ
spans a n p = if leb a p && ltb p (a + n) then 1 else 0

-- 1 if the position is in the rectangle, else 0
abbrev pub within : Rectangle → ℕ → ℕ → ℕ
within r px py = spans r.x r.width px * spans r.y r.height py

-- how many parts cover a position
abbrev pub covering : List Part → ℕ → ℕ → ℕ
covering [] px py = 0
covering (p ∷ ps) px py = within p.place px py + covering ps px py

-- each position in the rectangle is in exactly one part, and no part reaches outside
abbrev pub AreTiles : List Part → Rectangle → Type 0
AreTiles parts r = (px py : ℕ) → covering parts px py ≡ within r px py

-- a box with the outer borders around it
unfoldable pub framed : Sides ℕ → Box → Rectangle → List Part
framed e b w =
    let rest = rest_part Across e.left w in
    let middle = first_part Across (rest.width - e.right) rest in
    let below = rest_part Down e.top middle in
    part_of Bar (first_part Across e.left w) []
    ∷ (part_of Bar (rest_part Across (rest.width - e.right) rest) []
    ∷ (part_of Rule (first_part Down e.top middle) []
    ∷ (part_of Rule (rest_part Down (below.height - e.bottom) below) []
    ∷ b.parts (first_part Down (below.height - e.bottom) below))))

-- ---- which part is at a position

abbrev pub contains : Rectangle → ℕ → ℕ → Bool
contains r x y = within r x y == 1

-- the first part that contains a position
abbrev pub owner : List Part → ℕ → ℕ → Option Part
owner [] x y = None
owner (p ∷ ps) x y = if contains p.place x y then Some p else owner ps x y

abbrev pub is_line : Option Part → Bool
is_line None = false
is_line (Some p) = is_line_kind p.kind

-- whether a border is at a position
abbrev pub is_border : List Part → ℕ → ℕ → Bool
is_border ps x y = is_line (owner ps x y)

abbrev pub is_border_before : List Part → ℕ → ℕ → Bool
is_border_before ps zero y = false
is_border_before ps (suc x) y = is_border ps x y

abbrev pub is_border_above : List Part → ℕ → ℕ → Bool
is_border_above ps x zero = false
is_border_above ps x (suc y) = is_border ps x y
