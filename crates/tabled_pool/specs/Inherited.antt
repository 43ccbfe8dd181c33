-- How a tree with a zero-width text is drawn. Each text draws the borders above it and to its left,
-- at the edges of the table also those below it and to its right, and drawn boxes are joined. Boxes
-- pass on where borders meet: their widths to the boxes below, their heights to the boxes at the
-- right.
use Rattle.std.specs.Prelude.{ℕ, ◌+◌, ◌-◌, max, List, [], ◌∷◌, ◌++◌, drop, length, map, string_bytes, ltb, ◌==◌, if◌then◌else◌, Bool, true, false}
use Rattle.std.specs.Prelude.{not, ◌&&◌, ◌||◌, Option, Some, None, is_some, unwrap_or, encode_utf8}
use Rattle.std.specs.List.{flat_map, range_with_len, slice_index_or}
use Rattle.tabled_line.specs.Fill.{fill}
use Rattle.tabled_pool.specs.declared.drawn_block.DrawnBlock.{DrawnBlock}
use Rattle.tabled_priority.specs.Sums.{one_if}
use Rattle.tabled_config.specs.declared.borders.Borders.{Borders}
use Rattle.tabled_pool.specs.declared.sizes.BoxSpacing.{BoxSpacing}
use Rattle.tabled_pool.specs.declared.kind.Kind.TheVariants.{Leaf}
use Rattle.tabled_pool.specs.declared.rectangle.Rectangle.{Rectangle}
use Rattle.tabled_pool.specs.declared.tree.TableValue.{TableValue}
use Rattle.tabled_pool.specs.declared.tree.TableValue.TheOpen.{TableValue-F, Row, Column, Cell}
use Rattle.tabled_pool.specs.declared.tree.TableValue.TheFolds.{fold-TableValue}
use Rattle.tabled_pool.specs.declared.sizes.Direction.{Direction}
use Rattle.tabled_pool.specs.declared.sizes.Direction.TheVariants.{Across, Down}
use Rattle.tabled_pool.specs.Boxes.{Box, box_of, Part, part_of, leaf_box, list_box, given_size, behind_border, box_along, first_part, pick}
use Rattle.tabled_pool.specs.Boxes.{place_along, is_line_kind}
use Rattle.tabled_pool.specs.declared.tree_walk.Flags.{Flags}
use Rattle.tabled_pool.specs.Colours.{Around, alone, begun, ended, used_after, within_marks, Mark}
use Rattle.tabled_pool.specs.Block.{leaf_line}
use Rattle.tabled_pool.specs.Plan.{DrawingPlan, plan_of}
use Rattle.tabled_pool.specs.TallTexts.{IsInPlace}
use Rattle.tabled_base.specs.Content.{content_text}
use Rattle.tabled_line.specs.declared.cursor.Cursor.{Cursor}
use Rattle.tabled_pool.specs.declared.inheriting_box.InheritingBox.{InheritingBox}
use Rattle.tabled_pool.specs.declared.bordered_text.BorderedText.{BorderedText}
use Rattle.tabled_pool.specs.declared.inherited_sizes.InheritedSizes.{InheritedSizes}

pub record BlockSheet : Type 0 where
  pub width : ℕ
  pub lines : List (List ℕ)

abbrev pub block_sheet_of : DrawnBlock → BlockSheet
block_sheet_of b = record { width = b.width; lines = map string_bytes b.lines.items }

-- a line of a block, or spaces below its last line
abbrev pub drawn_block_line : ℕ → BlockSheet → List ℕ
drawn_block_line y p = slice_index_or p.lines y (fill 32 p.width)

abbrev pub all_columns : List BlockSheet → ℕ
all_columns [] = 0
all_columns (p ∷ ps) = p.width + all_columns ps

abbrev pub most_columns : List BlockSheet → ℕ
most_columns [] = 0
most_columns (p ∷ ps) = max p.width (most_columns ps)

abbrev pub most_lines : List BlockSheet → ℕ
most_lines [] = 0
most_lines (p ∷ ps) = max (length p.lines) (most_lines ps)

-- blocks side by side
abbrev pub side_by_side : List BlockSheet → BlockSheet
side_by_side ps = record { width = all_columns ps; lines = map (λ y. flat_map (drawn_block_line y) ps) (range_with_len 0 (most_lines ps)) }

-- a block with another one at its right, and a block that has nothing yet
abbrev pub beside : BlockSheet → BlockSheet → BlockSheet
beside p q = record {
  width = p.width + q.width;
  lines = map (λ y. drawn_block_line y p ++ drawn_block_line y q) (range_with_len 0 (max (length p.lines) (length q.lines)));
}

abbrev pub no_block : BlockSheet
no_block = record { width = 0; lines = [] }

-- the lines of a block in which there is a line y: the next one begins with spaces
abbrev pub with_line : ℕ → BlockSheet → List (List ℕ)
with_line y p = if ltb y (length p.lines) then p.lines else p.lines ++ (fill 32 p.width ∷ [])

-- the lines of a block, filled with spaces to `width` columns
abbrev pub widened : ℕ → BlockSheet → List (List ℕ)
widened width p = map (λ line. line ++ fill 32 (width - p.width)) p.lines

-- blocks below each other, filled with spaces to the greatest width
abbrev pub stacked : List BlockSheet → BlockSheet
stacked ps = record { width = most_columns ps; lines = flat_map (widened (most_columns ps)) ps }

-- ---- lists of sizes

pub record Taken : Type 0 where
  pub part : List ℕ
  pub rest : List ℕ
  pub met : Bool

-- a list of sizes, each followed by a border, split at a size: a size that reaches beyond loses
-- what is before that, and one for the border there; `met` if one ends exactly there
abbrev pub taken : ℕ → List ℕ → Taken
taken size [] = record { part = []; rest = []; met = false }
taken size (e ∷ es) =
    if ltb e size then (let t = taken (size - e - 1) es in record t { part = e ∷ t.part })
    else record { part = []; rest = if e == size then es else (e - size - 1) ∷ es; met = e == size }

-- whether a border is at `place`: after the first of the sizes, the first two, .., while these add
-- up to less than `size`
abbrev pub is_split : List ℕ → ℕ → ℕ → Bool
is_split [] size place = false
is_split (e ∷ es) size place =
    ltb e size && (place == e || (ltb e place && is_split es (size - e) (place - e - 1)))

-- ---- the border characters of a text

-- a crossing, a left edge, a top edge, a later row at the left, or the corner: the first that
-- applies
abbrev pub top_left : Borders ℕ → Flags → Option ℕ
top_left b f =
    if f.cross then b.intersection
    else if f.side then b.left_intersection
    else if f.leans then b.top_intersection
    else if f.first_column && not f.first_row then b.left_intersection
    else b.top_left

-- the borders of a text; one that it doesn't draw has no character
abbrev pub own_borders : Borders ℕ → Flags → Borders ℕ
own_borders b f = record b {
  top_left = top_left b f;
  top_right = if f.last_column then (if f.first_row then b.top_right else b.right_intersection) else None;
  right = if f.last_column then b.right else None;
  bottom_left = if f.last_row then (if f.first_column then b.bottom_left else b.bottom_intersection) else None;
  bottom = if f.last_row then b.bottom else None;
  bottom_right = if f.last_row && f.last_column then b.bottom_right else None;
}

-- there is a border if its main character or one of its corners is set
abbrev pub is_top : Borders ℕ → Bool
is_top b = is_some b.top || (is_some b.top_left || is_some b.top_right)

abbrev pub is_bottom : Borders ℕ → Bool
is_bottom b = is_some b.bottom || (is_some b.bottom_left || is_some b.bottom_right)

abbrev pub is_left : Borders ℕ → Bool
is_left b = is_some b.left || (is_some b.top_left || is_some b.bottom_left)

abbrev pub is_right : Borders ℕ → Bool
is_right b = is_some b.right || (is_some b.top_right || is_some b.bottom_right)

-- ---- the lines of a text

-- the character of a border, if that is there; a missing character is a space
abbrev pub written : Bool → Option ℕ → Option ℕ
written there c = if there then Some (unwrap_or c 32) else None

-- a border character between its marks, if there is one
abbrev pub marked_text : Around → Option ℕ → List ℕ
marked_text marks None = []
marked_text marks (Some c) = within_marks marks (encode_utf8 c)

-- the border above or below a text: a corner, a run, a corner, each with its colour
abbrev pub outer_line : Option Mark → Option Mark → Option Mark → Option ℕ → List ℕ → Option ℕ → List ℕ
outer_line corner main last start run end =
    let first = if is_some start then corner else None in
    let used = used_after first main in
    marked_text (begun None corner) start
    ++ (within_marks (begun first main) run
    ++ (marked_text (begun used last) end ++ ended (if is_some end then used_after used last else used)))

-- a horizontal border of `width` columns, with `split` where vertical ones meet it
abbrev pub run_char : List ℕ → ℕ → Option ℕ → Option ℕ → ℕ → List ℕ
run_char sizes width split main x = encode_utf8 (unwrap_or (if is_split sizes width x then split else main) 32)

abbrev pub run_text : List ℕ → ℕ → Option ℕ → Option ℕ → List ℕ
run_text sizes width split main = flat_map (run_char sizes width split main) (range_with_len 0 width)

-- what a box inherits: its rectangle, its flags, the widths of the boxes above it and the heights
-- of the boxes to its left
pub record InheritedSheet : Type 0 where
  pub place : Rectangle
  pub flags : Flags
  pub above : List ℕ
  pub before : List ℕ

abbrev pub top_text : DrawingPlan → Borders ℕ → InheritedSheet → List ℕ
top_text t b h = outer_line t.line_marks.top_left t.line_marks.top t.line_marks.top_right (written (is_left b) b.top_left)
    (run_text h.above h.place.width t.borders.bottom_intersection b.top) (written (is_right b) b.top_right)

abbrev pub bottom_text : DrawingPlan → Borders ℕ → InheritedSheet → List ℕ
bottom_text t b h = outer_line t.line_marks.bottom_left t.line_marks.bottom t.line_marks.bottom_right
    (written (is_left b) b.bottom_left) (run_text [] h.place.width None b.bottom) (written (is_right b) b.bottom_right)

abbrev pub left_char : DrawingPlan → Borders ℕ → InheritedSheet → ℕ → Option ℕ
left_char t b h y = if is_split h.before h.place.height y then t.borders.right_intersection else b.left

-- a line of the text's block, between the borders at its sides
abbrev pub inner_text : DrawingPlan → Borders ℕ → InheritedSheet → List ℕ → ℕ → List ℕ
inner_text t b h text y =
    marked_text (alone t.line_marks.left) (written (is_left b) (left_char t b h y))
    ++ (leaf_line t (part_of Leaf h.place text) y ++ marked_text (alone t.line_marks.right) (written (is_right b) b.right))

abbrev pub line_if : Bool → List ℕ → List (List ℕ)
line_if there line = if there then line ∷ [] else []

unfoldable pub bordered_block : DrawingPlan → Borders ℕ → InheritedSheet → List ℕ → BlockSheet
bordered_block t b h text = record {
  width = one_if (is_left b) + h.place.width + one_if (is_right b);
  lines = line_if (is_top b) (top_text t b h)
      ++ (map (inner_text t b h text) (range_with_len 0 h.place.height) ++ line_if (is_bottom b) (bottom_text t b h));
}

-- a zero-width text is one empty line
abbrev pub text_block : DrawingPlan → InheritedSheet → List ℕ → BlockSheet
text_block t h text =
    if h.place.width == 0 then record { width = 0; lines = [] ∷ [] } else bordered_block t (own_borders t.borders h.flags) h text

-- ---- the tree

-- what a box passes on: its block, its widths to the boxes below it and its heights to the boxes at
-- its right
pub record PassedOn : Type 0 where
  pub block : BlockSheet
  pub above : List ℕ
  pub before : List ℕ

-- the boxes of a row or a column: the sizes that they pass on together, and those that the last
-- one passes on in the other direction
pub record Children : Type 0 where
  pub blocks : List BlockSheet
  pub sizes : List ℕ
  pub passed : List ℕ

pub record Drawer : Type 0 where
  pub box : Box
  pub draw : InheritedSheet → PassedOn

abbrev pub boxes : List Drawer → List Box
boxes ds = map (λ d. d.box) ds

-- what a box passes on that is drawn at the right of a block
abbrev pub passed_beside : BlockSheet → PassedOn → PassedOn
passed_beside p l = record l { block = beside p l.block }

abbrev pub text_passes : DrawingPlan → List ℕ → InheritedSheet → PassedOn
text_passes t text h = record { block = text_block t h text; above = h.place.width ∷ []; before = h.place.height ∷ [] }

abbrev pub text_drawer : DrawingPlan → BoxSpacing → List ℕ → Drawer
text_drawer t g text = record { box = leaf_box g text; draw = text_passes t text }

-- the flags of the first of several boxes, and of those after it; `last` if no other follows, `met`
-- if an inherited border ends at their corner
abbrev pub first_flags : Direction → Flags → Bool → Flags
first_flags Across f last = record f { last_column = f.last_column && last; leans = not f.first_column }
first_flags Down f last = record f { last_row = f.last_row && last }

abbrev pub later_flags : Direction → Flags → Bool → Flags
later_flags Across f met = record f { first_column = false; side = false; cross = met }
later_flags Down f met = record f { first_row = false; leans = false; side = true; cross = met }

-- the first n of the sizes that boxes inherit in their direction, and the others
abbrev pub taken_along : Direction → ℕ → InheritedSheet → Taken
taken_along d n h = taken n (pick d h.above h.before)

-- what boxes inherit: the first, those after it together, and the last
abbrev pub to_first : Direction → ℕ → InheritedSheet → InheritedSheet
to_first d n h =
    let part = (taken_along d n h).part in
    record {
      place = first_part d n h.place;
      flags = first_flags d h.flags false;
      above = pick d part h.above;
      before = pick d h.before part;
    }

abbrev pub to_later : Direction → BoxSpacing → ℕ → InheritedSheet → List ℕ → InheritedSheet
to_later d g n h passed =
    let t = taken_along d n h in
    record {
      place = behind_border d g n h.place;
      flags = later_flags d h.flags t.met;
      above = pick d t.rest passed;
      before = pick d passed t.rest;
    }

abbrev pub to_last : Direction → InheritedSheet → InheritedSheet
to_last d h =
    let part = (taken_along d (place_along d h.place) h).part in
    record h { flags = first_flags d h.flags true; above = pick d part h.above; before = pick d h.before part }

-- sizes in the other direction take the place of inherited ones
abbrev pub with_passed : Direction → InheritedSheet → List ℕ → InheritedSheet
with_passed d h passed = record h { above = pick d h.above passed; before = pick d passed h.before }

-- the sizes that a box passes on in a direction, and in the other one
abbrev pub passes_along : Direction → PassedOn → List ℕ
passes_along d l = pick d l.above l.before

abbrev pub passes_across : Direction → PassedOn → List ℕ
passes_across d l = pick d l.before l.above

-- each box takes its part of the sizes that all inherit in their direction, and inherits those in
-- the other one that the box before it passes on
abbrev pub list_children : Direction → BoxSpacing → Drawer → List Drawer → InheritedSheet → Children
list_children d g e [] h =
    let l = e.draw (to_last d h) in record { blocks = l.block ∷ []; sizes = passes_along d l; passed = passes_across d l }
list_children d g e (f ∷ es) h =
    let n = given_size d g e.box (place_along d h.place) (box_along d (list_box d g (boxes (e ∷ (f ∷ es))))) (length (f ∷ es) + 1) in
    let l = e.draw (to_first d n h) in
    let ls = list_children d g f es (to_later d g n h (passes_across d l)) in
    record { blocks = l.block ∷ ls.blocks; sizes = passes_along d l ++ ls.sizes; passed = ls.passed }

abbrev pub join : Direction → List BlockSheet → BlockSheet
join Across blocks = side_by_side blocks
join Down blocks = stacked blocks

abbrev pub joined : Direction → Children → PassedOn
joined d c = record { block = join d c.blocks; above = pick d c.sizes c.passed; before = pick d c.passed c.sizes }

abbrev pub list_drawer : Direction → DrawingPlan → BoxSpacing → List Drawer → Drawer
list_drawer d t g [] = text_drawer t g []
list_drawer d t g (e ∷ es) = record { box = list_box d g (boxes (e ∷ es)); draw = λ h. joined d (list_children d g e es h) }

abbrev pub drawer_step : DrawingPlan → BoxSpacing → TableValue-F Drawer → Drawer
drawer_step t g (Cell s) = text_drawer t g (string_bytes s)
drawer_step t g (Row v) = list_drawer Across t g v.items
drawer_step t g (Column v) = list_drawer Down t g v.items

abbrev pub drawer : DrawingPlan → BoxSpacing → TableValue → Drawer
drawer t g = fold-TableValue Drawer (drawer_step t g)

abbrev pub whole_flags : Flags
whole_flags = record {
  first_column = true;
  last_column = true;
  first_row = true;
  last_row = true;
  leans = false;
  side = false;
  cross = false;
}

-- what the entire tree inherits, in a rectangle of the size that it needs
abbrev pub inherited_whole : Box → InheritedSheet
inherited_whole b = record {
  place = record { x = 0; y = 0; width = b.width; height = b.height };
  flags = whole_flags;
  above = [];
  before = [];
}

unfoldable pub inherited_block : DrawingPlan → BoxSpacing → TableValue → BlockSheet
inherited_block t g v = ((drawer t g v).draw (inherited_whole (box_of g v))).block

-- ---- which trees are drawn like this

abbrev pub is_zero_width : Part → Bool
is_zero_width p = not (is_line_kind p.kind) && p.place.width == 0

-- whether a text has zero width
abbrev pub has_zero_width : List Part → Bool
has_zero_width [] = false
has_zero_width (p ∷ ps) = is_zero_width p || has_zero_width ps

-- ---- Of private steps: no public call promises this.

-- the sizes of a list that aren't taken
abbrev pub sizes_left : InheritedSizes → List ℕ
sizes_left s = drop s.start s.sizes.items

-- what a box inherits; once it is drawn, `above` and `before` are what it passes on
abbrev pub inheriting_box : InheritingBox → InheritedSheet
inheriting_box b = record {
  place = b.place;
  flags = b.flags;
  above = sizes_left b.above;
  before = sizes_left b.before;
}

abbrev pub passed_on : InheritingBox → PassedOn
passed_on b = record {
  block = block_sheet_of b.block;
  above = sizes_left b.above;
  before = sizes_left b.before;
}

abbrev pub plan_for : BorderedText → DrawingPlan
plan_for b = plan_of b.drawing.now

abbrev pub inherited_by : BorderedText → InheritedSheet
inherited_by b = inheriting_box b.inherited.now

-- a cursor in its text is in line `index` of its rectangle
abbrev pub IsInText : BorderedText → ℕ → Cursor → Type 0
IsInText b index cursor =
    IsInPlace b.drawing.now.style b.inherited.now.place (content_text b.content.now) index cursor
