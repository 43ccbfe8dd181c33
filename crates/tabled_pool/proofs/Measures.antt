-- The sizes of the boxes in a tree.
use Rattle.tabled_pool.proofs.Names.{Across, Box, BoxSpacing, Cell, Column, Direction, Down, IsSize, List, Row, Some, TableValue, [], ap, append_assoc}
use Rattle.tabled_pool.proofs.Names.{arith, box_of, box_step, fold-roll-TableValue, ind-TableValue, length, list_box, map, map-TableValue}
use Rattle.tabled_pool.proofs.Names.{common_steps, refl, roll-TableValue, subst, sym, ℕ, ◌++◌, ◌<◌, ◌∙◌, ◌∷◌, ◌≡◌}
use Rattle.std.proofs.Common.{◌≢◌, IfSome}
use Rattle.std.specs.Prelude.{Err, IfOk, Ok, Result}
use Rattle.tabled_pool.proofs.Names.{Fits, None, Option, Rectangle, append-nil, box_across, box_along, drop, get_or, length-map, pick, sized, ◌+◌, ◌≤◌}
use Rattle.tabled_pool.specs.Boxes.{CanSplit}
use Rattle.tabled_pool.specs.declared.rectangle.BoxesLeft.{BoxesLeft}
use Rattle.tabled_pool.specs.Tree.{child_count}
use Rattle.std.proofs.lemmas.List.{append_cancel_right, drop_all, drop_more, same_from_push}
use Rattle.tabled_pool.specs.Sizes.{AreAdded, EndsWith, Measured, measured, measured_step, size_of, sizes_in, sizes_of, sizes_of_all, sizes_within}
use Rattle.tabled_pool.specs.declared.sizes.Size.{Size}
use Rattle.tabled_pool.specs.declared.sizes.SizeList.{SizeList}

-- ---- the box of a measured value is that of the value

abbrev box-of : Measured → Box
box-of m = m.box

abbrev Same : BoxSpacing → TableValue → Type 0
Same g v = (measured g v).box ≡ box_of g v

all-same : (g : BoxSpacing) (es : List ((v : TableValue) × Same g v))
    → map box-of (map (measured g) (map (λ e. e.0) es)) ≡ map (box_of g) (map (λ e. e.0) es)
all-same g [] = refl
all-same g (e ∷ es) = ap (λ b. b ∷ map box-of (map (measured g) (map (λ e. e.0) es))) e.1
    ∙ ap (λ bs. box_of g e.0 ∷ bs) (all-same g es)

pub measured_box : (g : BoxSpacing) (v : TableValue) → (measured g v).box ≡ box_of g v
measured_box g = ind-TableValue (Same g) (λ x y is.
    subst (λ z. Same g (roll-TableValue z)) is
    (ap box-of (fold-roll-TableValue Measured (measured_step g) (map-TableValue _ TableValue (λ e. e.0) y))
    ∙ (elim y as (λ v. (measured_step g (map-TableValue TableValue Measured (measured g) (map-TableValue _ TableValue (λ e. e.0) v))).box
    ≡ box_step g (map-TableValue TableValue Box (box_of g) (map-TableValue _ TableValue (λ e. e.0) v))) [
      | Cell s ↦ refl
      | Row v ↦ ap (list_box Across g) (all-same g v.items)
      | Column v ↦ ap (list_box Down g) (all-same g v.items)
    ])
    ∙ sym (fold-roll-TableValue Box (box_step g) (map-TableValue _ TableValue (λ e. e.0) y))))

size-is : (s : Size) (w h : ℕ) → s.width ≡ w → s.height ≡ h → s ≡ record { width = w; height = h }
size-is s w h a b = ap (λ x. record s { width = x }) a ∙ ap (λ y. record { width = w; height = y }) b

-- the size of a box is that in the list
pub own_size_is : (g : BoxSpacing) (v : TableValue) (s : Size) → IsSize (Some s) (box_of g v) → s ≡ size_of (measured g v).box
own_size_is g v s h = let e = measured_box g v in
    size-is s _ _ (h.0 ∙ ap (λ (b : Box). b.width) (sym e)) (h.1 ∙ ap (λ (b : Box). b.height) (sym e))

pub own_size_of : (g : BoxSpacing) (v : TableValue) (s : Size) → s ≡ size_of (measured g v).box → IsSize (Some s) (box_of g v)
own_size_of g v s h = let e = measured_box g v in
    (ap (λ (x : Size). x.width) h ∙ ap (λ (b : Box). b.width) e, ap (λ (x : Size). x.height) h ∙ ap (λ (b : Box). b.height) e)

-- ---- lists of several boxes

pub several : (ms : List Measured) → length ms ≢ 1 → sizes_in ms ≡ sizes_of ms
several [] h = refl
several (m ∷ []) h = absurd (h refl)
several (m ∷ (n ∷ ms)) h = refl

pub sizes_inside : (g : BoxSpacing) (value inner : TableValue) (vs : List TableValue) → sizes_within g value ≡ sizes_within g inner
    → sizes_within g inner ≡ sizes_in (map (measured g) vs) → child_count inner ≡ length (map child_count vs) → child_count inner ≢ 1
    → sizes_of_all g vs ≡ sizes_within g value
sizes_inside g value inner vs e i n h =
    sym (e ∙ i ∙ several (map (measured g) vs) (λ one. h (n ∙ length-map vs child_count ∙ sym (length-map vs (measured g)) ∙ one)))

-- ---- sizes that are added

pub none_added : (a : SizeList) → AreAdded a a []
none_added a = record { complete = λ h. h; items = λ h. sym (append-nil a.sizes.items) }

pub some_added : (own : Option Size) (a : SizeList) (ss : List Size) → ss ≡ [] → IfSome own (λ _. AreAdded a a ss)
some_added None a ss e = tt
some_added (Some s) a ss e = subst (AreAdded a a) (sym e) (none_added a)

pub added_more : (a b c : SizeList) (s t : List Size) → AreAdded a b s → AreAdded b c t → AreAdded a c (s ++ t)
added_more a b c s t x y = record {
  complete = λ h. x.complete (y.complete h);
  items = λ h. y.items h ∙ ap (λ u. u ++ t) (x.items (y.complete h)) ∙ append_assoc _ s t;
}

-- the sizes of one more box, before those of the others
pub added_box : (g : BoxSpacing) (v : TableValue) (vs : List TableValue) (own : Size) (a b c d : SizeList)
    → AreAdded a b (sizes_of_all g vs) → AreAdded b c (sizes_within g v) → AreAdded c d (own ∷ [])
    → IsSize (Some own) (box_of g v) → AreAdded a d (sizes_of_all g (v ∷ vs))
added_box g v vs own a b c d x y z h =
    let all : AreAdded a d (sizes_of_all g vs ++ (sizes_within g v ++ (own ∷ []))) =
    added_more a b d _ _ x (added_more b c d _ _ y z) in
    subst (λ s. AreAdded a d (sizes_of_all g vs ++ (sizes_within g v ++ (s ∷ [])))) (own_size_is g v own h) all

-- ---- sizes that are taken

pub record Taken (g : BoxSpacing) (v : TableValue) (before left : List Size) (s : Size) : Type 0 where
  pub size : IsSize (Some s) (box_of g v)
  pub same : left ≡ before ++ sizes_within g v

-- the last size is that of the first box
pub taken : (g : BoxSpacing) (v : TableValue) (vs : List TableValue) (first items items' : List Size) (s : Size)
    → items ≡ first ++ sizes_of_all g (v ∷ vs) → items ≡ items' ++ (s ∷ [])
    → Taken g v (first ++ sizes_of_all g vs) items' s
taken g v vs first items items' s h e =
    let all : items' ++ (s ∷ []) ≡ ((first ++ sizes_of_all g vs) ++ sizes_within g v) ++ (size_of (measured g v).box ∷ []) =
    sym e ∙ h ∙ simp append_assoc in
    let p = same_from_push items' _ s _ all in
    record { size = own_size_of g v s p.1; same = p.0 }

-- ---- the sizes of boxes that are still to be placed, of all that are being placed

pub record AreUnplaced (all whole items left : List Size) : Type 0 where
  pub before : List Size
  pub first : all ≡ before ++ whole
  pub now : items ≡ before ++ left

-- the size of the first of them is taken, and then those of the boxes in it
pub record NextSize (g : BoxSpacing) (v : TableValue) (vs : List TableValue) (all whole items : List Size) (s : Size) : Type 0 where
  pub size : IsSize (Some s) (box_of g v)
  pub ends : EndsWith items (sizes_within g v)
  pub next : (later : List Size) → items ≡ later ++ sizes_within g v → AreUnplaced all whole later (sizes_of_all g vs)

pub unplaced_first : (all whole left : List Size) → EndsWith all whole → whole ≡ left → AreUnplaced all whole all left
unplaced_first all whole left e h = record { before = e.before; first = e.same; now = e.same ∙ ap (λ u. e.before ++ u) h }

pub next_size : (g : BoxSpacing) (v : TableValue) (vs left : List TableValue) (all whole items items' : List Size) (s : Size)
    → left ≡ v ∷ vs → AreUnplaced all whole items (sizes_of_all g left) → items ≡ items' ++ (s ∷ []) → NextSize g v vs all whole items' s
next_size g v vs left all whole items items' s is u e =
    let t = taken g v vs u.before items items' s (u.now ∙ ap (λ ws. u.before ++ sizes_of_all g ws) is) e in
    record {
      size = t.size;
      ends = record { before = u.before ++ sizes_of_all g vs; same = t.same };
      next = λ later h. record {
        before = u.before;
        first = u.first;
        now = append_cancel_right later (u.before ++ sizes_of_all g vs) (sizes_within g v) (sym h ∙ t.same);
      };
    }

pub placed_all : (all whole items : List Size) → AreUnplaced all whole items [] → all ≡ items ++ whole
placed_all all whole items u = u.first ∙ ap (λ b. b ++ whole) (sym (u.now ∙ append-nil u.before))

-- the values that are still to be placed
pub values_left : (front : List TableValue) (last : TableValue) (i : ℕ) (v : TableValue) → i < length front → v ≡ get_or front i v
    → drop i front ++ (last ∷ []) ≡ v ∷ (drop (i + 1) front ++ (last ∷ []))
values_left front last i v h e =
    ap (λ ts. ts ++ (last ∷ [])) (drop_more front i v h ∙ ap (λ t. t ∷ drop (i + 1) front) (sym e))

pub last_left : (front : List TableValue) (last : TableValue) (i : ℕ) → length front ≤ i → drop i front ++ (last ∷ []) ≡ last ∷ []
last_left front last i h = ap (λ ts. ts ++ (last ∷ [])) (drop_all i front h)

-- ---- the sizes of boxes that are still to be drawn

-- those in `left` and the last one, which has those in `front` before it; a list of one box is that
-- box
abbrev pub sizes_to_draw : BoxSpacing → (front left : List TableValue) → TableValue → List Size
sizes_to_draw g [] left last = sizes_within g last
sizes_to_draw g (v ∷ vs) left last = sizes_of_all g (left ++ (last ∷ []))

pub to_draw_first : (g : BoxSpacing) (front : List TableValue) (last : TableValue)
    → sizes_in (map (measured g) (front ++ (last ∷ []))) ≡ sizes_to_draw g front front last
to_draw_first g [] last = refl
to_draw_first g (v ∷ []) last = refl
to_draw_first g (v ∷ (w ∷ vs)) last = refl

pub to_draw_some : (g : BoxSpacing) (front left : List TableValue) (last : TableValue) → 0 < length front
    → sizes_to_draw g front left last ≡ sizes_of_all g (left ++ (last ∷ []))
to_draw_some g [] left last h = absurd (omega arith)
to_draw_some g (v ∷ vs) left last h = refl

-- the size of the next box, which isn't the last one, is taken, and then those of the boxes in it
pub record NextToDraw (g : BoxSpacing) (v : TableValue) (front left : List TableValue) (last : TableValue) (all whole items : List Size)
    (s : Size) : Type 0 where
  pub size : IsSize (Some s) (box_of g v)
  pub ends : EndsWith items (sizes_within g v)
  pub next : (later : List Size) → items ≡ later ++ sizes_within g v → AreUnplaced all whole later (sizes_to_draw g front left last)

pub next_to_draw : (g : BoxSpacing) (front : List TableValue) (last : TableValue) (i : ℕ) (v : TableValue)
    (all whole items items' : List Size) (s : Size) → i < length front → v ≡ get_or front i v
    → AreUnplaced all whole items (sizes_to_draw g front (drop i front) last) → items ≡ items' ++ (s ∷ [])
    → NextToDraw g v front (drop (i + 1) front) last all whole items' s
next_to_draw g front last i v all whole items items' s h is u e =
    let some : 0 < length front = omega (arith, h) in
    let n = next_size g v _ _ all whole items items' s (values_left front last i v h is)
    (subst (AreUnplaced all whole items) (to_draw_some g front (drop i front) last some) u) e in
    record {
      size = n.size;
      ends = n.ends;
      next = λ later k. subst (AreUnplaced all whole later) (sym (to_draw_some g front (drop (i + 1) front) last some)) (n.next later k);
    }

-- the size of the last box is taken, and then those of the boxes in it
pub record LastSize (g : BoxSpacing) (v : TableValue) (all whole items : List Size) (s : Size) : Type 0 where
  pub size : IsSize (Some s) (box_of g v)
  pub ends : EndsWith items (sizes_within g v)
  pub next : (later : List Size) → items ≡ later ++ sizes_within g v → all ≡ later ++ whole

pub last_size : (d : Direction) (g : BoxSpacing) (front : List TableValue) (last : TableValue) (i : ℕ) (all whole items items' : List Size)
    (own s : Size) → length front ≤ i → IsSize (Some own) (list_box d g (map (box_of g) (front ++ (last ∷ []))))
    → AreUnplaced all whole items (sizes_to_draw g front (drop i front) last)
    → (length front ≡ 0 → (s ≡ own) × (items' ≡ items)) → (0 < length front → items ≡ items' ++ (s ∷ []))
    → LastSize g last all whole items' s
last_size d g [] last i all whole items items' own s z o u only other =
    let e = only refl in
    record {
      size = subst (λ x. IsSize (Some x) (box_of g last)) (sym e.0) o;
      ends = record { before = u.before; same = e.1 ∙ u.now };
      next = λ later h. u.first ∙ ap (λ b. b ++ whole)
          (append_cancel_right u.before later (sizes_within g last) (sym u.now ∙ sym e.1 ∙ h));
    }
last_size d g (v ∷ vs) last i all whole items items' own s z o u only other =
    let n = next_size g last [] _ all whole items items' s (last_left (v ∷ vs) last i z) u (other (omega arith)) in
    record {
      size = n.size;
      ends = n.ends;
      next = λ later h. placed_all all whole later (n.next later h);
    }

-- there is a size for the next box
pub next_there : (g : BoxSpacing) (front : List TableValue) (last : TableValue) (i : ℕ) (v : TableValue) (all whole items : List Size)
    → i < length front → v ≡ get_or front i v → AreUnplaced all whole items (sizes_to_draw g front (drop i front) last) → 0 < length items
next_there g front last i v all whole items h is u =
    let some : 0 < length front = omega (arith, h) in
    let n = ap length (u.now ∙ ap (λ ss. u.before ++ ss)
    (to_draw_some g front (drop i front) last some ∙ ap (sizes_of_all g) (values_left front last i v h is))) in
    grind (arith, common_steps, n)

-- there is a size for the last one
pub some_size : (g : BoxSpacing) (front : List TableValue) (last : TableValue) (i : ℕ) (all whole items : List Size) → length front ≤ i
    → AreUnplaced all whole items (sizes_to_draw g front (drop i front) last) → 0 < length front → 0 < length items
some_size g front last i all whole items z u h =
    let e : sizes_to_draw g front (drop i front) last ≡ sizes_within g last ++ (size_of (measured g last).box ∷ []) =
    to_draw_some g front (drop i front) last h ∙ ap (sizes_of_all g) (last_left front last i z) in
    let n = ap length (u.now ∙ ap (λ ss. u.before ++ ss) e) in
    grind (arith, common_steps, n)

-- ---- the sizes of a box, and the box

pub sized_along : (d : Direction) (b : Box) (s : Size) → IsSize (Some s) b → box_along d (sized s) ≡ box_along d b
sized_along Across b s h = h.0
sized_along Down b s h = h.1

pub own_along : (d : Direction) (b : Box) (s : Size) → IsSize (Some s) b → pick d s.width s.height ≡ box_along d b
own_along Across b s h = h.0
own_along Down b s h = h.1

sized-across : (d : Direction) (b : Box) (s : Size) → IsSize (Some s) b → box_across d (sized s) ≡ box_across d b
sized-across Across b s h = h.1
sized-across Down b s h = h.0

pub can_split_size : (d : Direction) (g : BoxSpacing) (b : Box) (s : Size) (left : BoxesLeft) (r : Rectangle) → IsSize (Some s) b
    → CanSplit d g b left r → CanSplit d g (sized s) left r
can_split_size d g b s left r h c = record {
  some = c.some;
  own = omega (arith, sized_along d b s h, c.own);
  across = omega (arith, sized-across d b s h, c.across);
  along = c.along;
  right = c.right;
  low = c.low;
}

pub fits_size : (b : Box) (s : Size) (r : Rectangle) → IsSize (Some s) b → Fits (sized s) r → Fits b r
fits_size b s r h f =
    record { wide = omega (arith, h.0, f.wide); tall = omega (arith, h.1, f.tall); right = f.right; low = f.low }

-- ---- when placing succeeds

pub taken_all : {T E : Type 0} (r : Result T E) (all whole items later inside : List Size) → (items ≡ later ++ inside → all ≡ later ++ whole)
    → IfOk r (λ _. items ≡ later ++ inside) → IfOk r (λ _. all ≡ later ++ whole)
taken_all (Ok x) all whole items later inside f h = f h
taken_all (Err e) all whole items later inside f h = tt

pub none_taken : {T E : Type 0} (r : Result T E) (items ss : List Size) → ss ≡ [] → IfOk r (λ _. items ≡ items ++ ss)
none_taken (Ok x) items ss e = sym (append-nil items) ∙ ap (λ u. items ++ u) (sym e)
none_taken (Err x) items ss e = tt

pub in_any_case : {T E P : Type 0} (r : Result T E) → P → IfOk r (λ _. P)
in_any_case (Ok x) h = h
in_any_case (Err e) h = tt
