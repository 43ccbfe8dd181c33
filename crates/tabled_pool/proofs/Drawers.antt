-- Boxes that are drawn one after another, and hand their sizes on.
use Rattle.tabled_pool.proofs.Names.{Across, BlockSheet, Box, BoxSpacing, Cell, Column, Direction, Down, DrawingPlan, InheritedSheet, List}
use Rattle.tabled_pool.proofs.Names.{Row, TableValue, [], ap, append_assoc, arith, box_along, box_of, box_step, boxes_left, drawer, drop}
use Rattle.tabled_pool.proofs.Names.{fold-roll-TableValue, get_or, given_size, ind-TableValue, length, length-map, list_box, map}
use Rattle.tabled_pool.proofs.Names.{map-TableValue, pick, place_along, refl, roll-TableValue, subst, sym, ℕ, ◌++◌, ◌+◌, ◌<◌, ◌∙◌, ◌∷◌, ◌≡◌}
use Rattle.tabled_pool.proofs.Names.{◌≤◌}
use Rattle.std.proofs.lemmas.List.{drop_all}
use Rattle.tabled_pool.specs.Inherited.{Children, Drawer, PassedOn, boxes, list_children, list_drawer, drawer_step, passes_across}
use Rattle.tabled_pool.specs.Inherited.{passes_along, to_first, to_later, joined as joined_children, to_last, with_passed}
use Rattle.tabled_pool.proofs.Steps.{drop_first}

-- ---- a drawer's box is that of its value

abbrev Same : DrawingPlan → BoxSpacing → TableValue → Type 0
Same t g v = (drawer t g v).box ≡ box_of g v

all-same : (t : DrawingPlan) (g : BoxSpacing) (es : List ((v : TableValue) × Same t g v))
    → boxes (map (drawer t g) (map (λ e. e.0) es)) ≡ map (box_of g) (map (λ e. e.0) es)
all-same t g [] = refl
all-same t g (e ∷ es) =
    ap (λ (b : Box). b ∷ boxes (map (drawer t g) (map (λ u. u.0) es))) e.1 ∙ ap (λ bs. box_of g e.0 ∷ bs) (all-same t g es)

list-box : (d : Direction) (t : DrawingPlan) (g : BoxSpacing) (ds : List Drawer) → (list_drawer d t g ds).box ≡ list_box d g (boxes ds)
list-box d t g [] = refl
list-box d t g (e ∷ ds) = refl

pub drawer-box : (t : DrawingPlan) (g : BoxSpacing) (v : TableValue) → (drawer t g v).box ≡ box_of g v
drawer-box t g = ind-TableValue (Same t g) (λ x y is.
    subst (λ z. Same t g (roll-TableValue z)) is
    (ap (λ (d : Drawer). d.box) (fold-roll-TableValue Drawer (drawer_step t g) (map-TableValue _ TableValue (λ e. e.0) y))
    ∙ (elim y as (λ v. (drawer_step t g (map-TableValue TableValue Drawer (drawer t g) (map-TableValue _ TableValue (λ e. e.0) v))).box
    ≡ box_step g (map-TableValue TableValue Box (box_of g) (map-TableValue _ TableValue (λ e. e.0) v))) [
      | Cell s ↦ refl
      | Row v ↦ list-box Across t g (map (drawer t g) (map (λ e. e.0) v.items)) ∙ ap (list_box Across g) (all-same t g v.items)
      | Column v ↦ list-box Down t g (map (drawer t g) (map (λ e. e.0) v.items)) ∙ ap (list_box Down g) (all-same t g v.items)
    ])
    ∙ sym (fold-roll-TableValue Box (box_step g) (map-TableValue _ TableValue (λ e. e.0) y))))

-- ---- the boxes that are still to be drawn

abbrev pub drawers_left : DrawingPlan → BoxSpacing → List TableValue → TableValue → List Drawer
drawers_left t g front last = map (drawer t g) front ++ (drawer t g last ∷ [])

pub left-boxes : (t : DrawingPlan) (g : BoxSpacing) (front : List TableValue) (last : TableValue)
    → boxes (drawers_left t g front last) ≡ boxes_left g front last
left-boxes t g [] last = ap (λ (b : Box). b ∷ []) (drawer-box t g last)
left-boxes t g (v ∷ vs) last =
    ap (λ (b : Box). b ∷ boxes (drawers_left t g vs last)) (drawer-box t g v) ∙ ap (λ bs. box_of g v ∷ bs) (left-boxes t g vs last)

pub drawers_first : (t : DrawingPlan) (g : BoxSpacing) (front : List TableValue) (last : TableValue) (i : ℕ) (v : TableValue)
    → i < length front → v ≡ get_or front i v → drawers_left t g (drop i front) last
    ≡ drawer t g v ∷ drawers_left t g (drop (i + 1) front) last
drawers_first t g front last i v h e =
    ap (λ ts. drawers_left t g ts last) (drop_first front i v h)
    ∙ ap (λ u. drawer t g u ∷ drawers_left t g (drop (i + 1) front) last) (sym e)

drawers-some : (t : DrawingPlan) (g : BoxSpacing) (front : List TableValue) (last : TableValue) → 0 < length (drawers_left t g front last)
drawers-some t g [] last = omega arith
drawers-some t g (v ∷ vs) last = omega arith

-- ---- rows and columns

abbrev pub list_of : Direction → BoxSpacing → List Drawer → InheritedSheet → Children
list_of d g [] h = record { blocks = []; sizes = []; passed = [] }
list_of d g (e ∷ ds) h = list_children d g e ds h

-- some boxes are drawn, and the rest follows
pub record ListWalk (whole now : Children) (drawn : List BlockSheet) (sizes : List ℕ) : Type 0 where
  pub blocks : drawn ++ now.blocks ≡ whole.blocks
  pub sizes_all : sizes ++ now.sizes ≡ whole.sizes
  pub passed : now.passed ≡ whole.passed

abbrev after_first : Direction → BoxSpacing → List Drawer → PassedOn → InheritedSheet → Children
after_first d g next l h' =
    let ls = list_of d g next h' in record { blocks = l.block ∷ ls.blocks; sizes = passes_along d l ++ ls.sizes; passed = ls.passed }

list-step : (d : Direction) (g : BoxSpacing) (e : Drawer) (next : List Drawer) (h : InheritedSheet) (n : ℕ) → 0 < length next
    → n ≡ given_size d g e.box (place_along d h.place) (box_along d (list_box d g (boxes (e ∷ next)))) (length next + 1)
    → (let l = e.draw (to_first d n h) in
    list_of d g (e ∷ next) h ≡ after_first d g next l (to_later d g n h (passes_across d l)))
list-step d g e [] h n z q = absurd (omega arith)
list-step d g e (c ∷ ds) h n z q = rw q refl

list-further : (d : Direction) (g : BoxSpacing) (e : Drawer) (now next : List Drawer) (h h' : InheritedSheet) (n : ℕ) (whole : Children)
    (blocks : List BlockSheet) (sizes : List ℕ) (l : PassedOn) → now ≡ e ∷ next → 0 < length next
    → n ≡ given_size d g e.box (place_along d h.place) (box_along d (list_box d g (boxes now))) (length now)
    → l ≡ e.draw (to_first d n h) → h' ≡ to_later d g n h (passes_across d l)
    → ListWalk whole (list_of d g now h) blocks sizes
    → ListWalk whole (list_of d g next h') (blocks ++ (l.block ∷ [])) (sizes ++ passes_along d l)
list-further d g e now next h h' n whole blocks sizes l e1 z e2 e4 e5 w =
    let count : length (e ∷ next) ≡ length next + 1 = omega arith in
    let size = e2
    ∙ ap (λ ds. given_size d g e.box (place_along d h.place) (box_along d (list_box d g (boxes ds))) (length ds)) e1
    ∙ ap (λ k. given_size d g e.box (place_along d h.place) (box_along d (list_box d g (boxes (e ∷ next)))) k) count in
    let same : after_first d g next l h'
    ≡ after_first d g next (e.draw (to_first d n h)) (to_later d g n h (passes_across d (e.draw (to_first d n h)))) = rw (e5, e4) refl in
    let v = subst (λ c. ListWalk whole c blocks sizes)
    (ap (λ ds. list_of d g ds h) e1 ∙ list-step d g e next h n z size ∙ sym same) w in
    record {
      blocks = append_assoc blocks (l.block ∷ []) _ ∙ v.blocks;
      sizes_all = append_assoc sizes (passes_along d l) _ ∙ v.sizes_all;
      passed = v.passed;
    }

left-count : (t : DrawingPlan) (g : BoxSpacing) (front : List TableValue) (last : TableValue)
    → length (drawers_left t g front last) ≡ length (boxes_left g front last)
left-count t g front last = sym (length-map (drawers_left t g front last) (λ d. d.box)) ∙ ap length (left-boxes t g front last)

-- the size that the first of the boxes that are left is given
list-share : (d : Direction) (t : DrawingPlan) (g : BoxSpacing) (front : List TableValue) (last : TableValue)
    (v : TableValue) (size left count : ℕ)
    → left ≡ box_along d (list_box d g (boxes_left g front last)) → count ≡ length (boxes_left g front last)
    → given_size d g (box_of g v) size left count
    ≡ given_size d g (drawer t g v).box size (box_along d (list_box d g (boxes (drawers_left t g front last)))) (length
    (drawers_left t g front last))
list-share d t g front last v size left count e1 e2 =
    rw (drawer-box t g v, left-boxes t g front last, left-count t g front last, e1, e2) refl

with-later : (d : Direction) (g : BoxSpacing) (n : ℕ) (h : InheritedSheet) (xs ys : List ℕ)
    → with_passed d (to_later d g n h xs) ys ≡ to_later d g n h ys
with-later Across g n h xs ys = refl
with-later Down g n h xs ys = refl

-- what a step leaves, by what its calls returned
pub list_added : (d : Direction) (t : DrawingPlan) (g : BoxSpacing) (front : List TableValue) (last : TableValue) (i : ℕ) (v : TableValue)
    (h one after next : InheritedSheet) (sizes : List ℕ) (left count : ℕ) (l : PassedOn) (whole : Children)
    (blocks blocks' : List BlockSheet) (drawn drawn' : List ℕ) → i < length front → v ≡ get_or front i v
    → left ≡ box_along d (list_box d g (boxes_left g (drop i front) last)) → count ≡ length (boxes_left g (drop i front) last)
    → (let n = given_size d g (box_of g v) (place_along d h.place) left count in
    one ≡ to_first d n h → after ≡ to_later d g n h sizes → l ≡ (drawer t g v).draw one → blocks' ≡ blocks ++ (l.block ∷ [])
    → drawn' ≡ drawn ++ passes_along d l → next ≡ with_passed d after (passes_across d l)
    → ListWalk whole (list_of d g (drawers_left t g (drop i front) last) h) blocks drawn
    → ListWalk whole (list_of d g (drawers_left t g (drop (i + 1) front) last) next) blocks' drawn')
list_added d t g front last i v h one after next sizes left count l whole blocks blocks' drawn drawn' ei ev el ec eo ea ed ep es en w =
    let n = given_size d g (box_of g v) (place_along d h.place) left count in
    rw (ep, es) (list-further d g (drawer t g v) _ _ h next n whole blocks drawn l
    (drawers_first t g front last i v ei ev) (drawers-some t g (drop (i + 1) front) last)
    (list-share d t g (drop i front) last v (place_along d h.place) left count el ec) (ed ∙ ap (drawer t g v).draw eo)
    (en ∙ ap (λ (u : InheritedSheet). with_passed d u (passes_across d l)) ea ∙ with-later d g n h sizes (passes_across d l)) w)

-- ---- the last box is drawn too

of-list : (d : Direction) (t : DrawingPlan) (g : BoxSpacing) (ds : List Drawer) (h : InheritedSheet) → 0 < length ds
    → (list_drawer d t g ds).draw h ≡ joined_children d (list_of d g ds h)
of-list d t g [] h z = absurd (omega arith)
of-list d t g (e ∷ es) h z = refl

same-children : (all : Children) (blocks : List BlockSheet) (sizes passed : List ℕ) → blocks ≡ all.blocks → sizes ≡ all.sizes
    → passed ≡ all.passed → record { blocks = blocks; sizes = sizes; passed = passed } ≡ all
same-children all blocks sizes passed e1 e2 e3 = rw (e1, e2, e3) refl

pub list_done : (d : Direction) (t : DrawingPlan) (g : BoxSpacing) (children front : List TableValue) (last : TableValue) (i : ℕ)
    (old h one : InheritedSheet) (drawn drawn' : List BlockSheet) (sizes sizes' passed : List ℕ) (l : PassedOn) → length front ≤ i
    → (children ≡ front ++ (last ∷ [])) × (length front + 1 ≡ length children)
    → ListWalk (list_of d g (map (drawer t g) children) old) (list_of d g (drawers_left t g (drop i front) last) h) drawn sizes
    → one ≡ to_last d h → l ≡ (drawer t g last).draw one → drawn' ≡ drawn ++ (l.block ∷ []) → sizes' ≡ sizes ++ passes_along d l
    → passed ≡ passes_across d l → joined_children d (record { blocks = drawn'; sizes = sizes'; passed = passed })
    ≡ (list_drawer d t g (map (drawer t g) children)).draw old
list_done d t g children front last i old h one drawn drawn' sizes sizes' passed l z ec w eo el eb es ep =
    let all = list_of d g (map (drawer t g) children) old in
    let v : ListWalk all (list_of d g (drawer t g last ∷ []) h) drawn sizes =
    subst (λ xs. ListWalk all (list_of d g (drawers_left t g xs last) h) drawn sizes) (drop_all i front z) w in
    let k : l ≡ (drawer t g last).draw (to_last d h) = el ∙ ap (λ u. (drawer t g last).draw u) eo in
    ap (joined_children d) (same-children all drawn' sizes' passed
    (eb ∙ ap (λ (u : PassedOn). drawn ++ (u.block ∷ [])) k ∙ v.blocks)
    (es ∙ ap (λ (u : PassedOn). sizes ++ passes_along d u) k ∙ v.sizes_all)
    (ep ∙ ap (λ (u : PassedOn). passes_across d u) k ∙ v.passed))
    ∙ sym (of-list d t g (map (drawer t g) children) old (omega (arith, ec.1, length-map children (drawer t g))))

pub passed_across : (d : Direction) (h u : InheritedSheet) (passed : List ℕ) → u ≡ with_passed d h passed → pick d u.before u.above ≡ passed
passed_across Across h u passed e = ap (λ (v : InheritedSheet). v.before) e
passed_across Down h u passed e = ap (λ (v : InheritedSheet). v.above) e
