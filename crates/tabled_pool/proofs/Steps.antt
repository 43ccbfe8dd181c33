-- Boxes one after another: the first one, then the others.
use Rattle.tabled_pool.proofs.Names.{AreLeft, Box, BoxSpacing, Direction, Fits, List, Part, Rectangle, TableValue, [], add-one, ap}
use Rattle.tabled_pool.proofs.Names.{append_assoc, arith, behind_border, border_kind, border_part, border_size, box_across, box_along}
use Rattle.tabled_pool.proofs.Names.{box_of, boxes_left, common_steps, drop, drop-cons, first_part, get_or, given_size, joined_box, length}
use Rattle.tabled_pool.proofs.Names.{list_box, map, max, needed_by, part_of, place_along, refl, subst, sym, ℕ, ◌++◌, ◌+◌, ◌<◌, ◌∙◌, ◌∷◌}
use Rattle.tabled_pool.proofs.Names.{◌≡◌}
use Rattle.tabled_pool.specs.Boxes.{joined_parts, CanSplit}
use Rattle.tabled_pool.specs.declared.rectangle.BoxesLeft.{BoxesLeft}
use Rattle.tabled_pool.proofs.Directions.{fits_across, fits_along, joined_along, joined_across, shares}

pub left_count : (g : BoxSpacing) (front : List TableValue) (last : TableValue) → length (boxes_left g front last) ≡ length front + 1
left_count g front last = grind (arith, common_steps)

pub left_all : (g : BoxSpacing) (front : List TableValue) (last : TableValue)
    → boxes_left g front last ≡ map (box_of g) (front ++ (last ∷ []))
left_all g [] last = refl
left_all g (t ∷ ts) last = ap (λ bs. box_of g t ∷ bs) (left_all g ts last)

pub drop_first : (ts : List TableValue) (i : ℕ) (d : TableValue) → i < length ts → drop i ts ≡ get_or ts i d ∷ drop (i + 1) ts
drop_first ts i d h = rw (add-one, drop-cons ts i d) refl

pub left_first : (g : BoxSpacing) (front : List TableValue) (last : TableValue) (i : ℕ) (d : TableValue) → i < length front
    → boxes_left g (drop i front) last ≡ box_of g (get_or front i d) ∷ boxes_left g (drop (i + 1) front) last
left_first g front last i d h = ap (λ ts. boxes_left g ts last) (drop_first front i d h)

pub joined : (d : Direction) (g : BoxSpacing) (b : Box) (next : List Box) → 0 < length next
    → list_box d g (b ∷ next) ≡ joined_box d g (length next + 1) b (list_box d g next)
joined d g b [] h = absurd (omega arith)
joined d g b (c ∷ bs) h = refl

-- what is known of the boxes that are left: the first of them, and the others
pub record ListFacts (d : Direction) (g : BoxSpacing) (now next : List Box) (b : Box) : Type 0 where
  pub box : list_box d g now ≡ joined_box d g (length now) b (list_box d g next)
  pub along : box_along d (list_box d g now) ≡ box_along d b + (border_size d g + box_along d (list_box d g next))
  pub most : box_across d (list_box d g now) ≡ max (box_across d b) (box_across d (list_box d g next))
  pub count : length now ≡ length next + 1
  pub some : 0 < length now

facts-of : (d : Direction) (g : BoxSpacing) (now next : List Box) (b : Box) → now ≡ b ∷ next → 0 < length next → ListFacts d g now next b
facts-of d g now next b e h =
    let count : length now ≡ length next + 1 = ap length e ∙ omega arith in
    let box : list_box d g now ≡ joined_box d g (length now) b (list_box d g next) =
    ap (list_box d g) e ∙ joined d g b next h ∙ ap (λ k. joined_box d g k b (list_box d g next)) (sym count) in
    record {
      box = box;
      along = ap (box_along d) box ∙ joined_along d g (length now) b (list_box d g next);
      most = ap (box_across d) box ∙ joined_across d g (length now) b (list_box d g next);
      count = count;
      some = omega (arith, count);
    }

pub list_facts : (d : Direction) (g : BoxSpacing) (front : List TableValue) (last : TableValue) (i : ℕ) (t : TableValue) → i < length front
    → t ≡ get_or front i t → ListFacts d g (boxes_left g (drop i front) last) (boxes_left g (drop (i + 1) front) last) (box_of g t)
list_facts d g front last i t h e =
    facts-of d g _ _ _ (left_first g front last i t h ∙ ap
    (λ u. box_of g u ∷ boxes_left g (drop (i + 1) front) last) (sym e)) (omega (arith, left_count g (drop (i + 1) front) last))

-- the size that the first of them is given
size-of : (d : Direction) (g : BoxSpacing) (now next : List Box) (b : Box) (size l k : ℕ) → ListFacts d g now next b
    → l ≡ box_along d (list_box d g now) → k ≡ length now
    → given_size d g b size (needed_by d g b (list_box d g next)) (length now) ≡ given_size d g b size l k
size-of d g now next b size l k f e1 e2 =
    ap (λ m. given_size d g b size m (length now)) (sym (e1 ∙ f.along)) ∙ ap (given_size d g b size l) (sym e2)

-- the first of them can be split off
pub can_split : (d : Direction) (g : BoxSpacing) (now next : List Box) (b : Box) (r : Rectangle) (left : BoxesLeft)
    → ListFacts d g now next b → Fits (list_box d g now) r → AreLeft d g now left → CanSplit d g b left r
can_split d g now next b r left f fits h = record {
  some = omega (arith, f.some, h.count);
  own = omega (arith, f.along, h.size);
  across = omega (arith, f.most, fits_across d (list_box d g now) r fits);
  along = omega (arith, h.size, fits_along d (list_box d g now) r fits);
  right = fits.right;
  low = fits.low;
}

pub list_next : (d : Direction) (g : BoxSpacing) (now next : List Box) (b : Box) (r : Rectangle) (l k : ℕ) (rest : Rectangle)
    → ListFacts d g now next b → Fits (list_box d g now) r → l ≡ box_along d (list_box d g now) → k ≡ length now
    → rest ≡ behind_border d g (given_size d g b (place_along d r) l k) r → Fits (list_box d g next) rest
list_next d g now next b r l k rest f fits el ek er =
    let j : Fits (joined_box d g (length now) b (list_box d g next)) r = subst (λ c. Fits c r) f.box fits in
    let s = shares d g (length now) b (list_box d g next) r f.some j.wide j.tall in
    let e = er ∙ ap (λ n. behind_border d g n r) (sym (size-of d g now next b (place_along d r) l k f el ek)) in
    subst (Fits (list_box d g next)) (sym e) (record {
      wide = s.rest_wide;
      tall = s.rest_tall;
      right = omega (arith, s.right, fits.right);
      low = omega (arith, s.low, fits.low);
    })

pub list_parts_next : (d : Direction) (g : BoxSpacing) (now next : List Box) (b : Box) (r : Rectangle) (l k : ℕ)
    (given line rest : Rectangle) (before before' before'' whole : List Part) → ListFacts d g now next b
    → l ≡ box_along d (list_box d g now) → k ≡ length now
    → (let n = given_size d g b (place_along d r) l k in
    given ≡ first_part d n r → part_of (border_kind d) line [] ≡ border_part d g n r → rest ≡ behind_border d g n r
    → before ++ (list_box d g now).parts r ≡ whole → before' ≡ before ++ b.parts given
    → before'' ≡ before' ++ (part_of (border_kind d) line [] ∷ []) → before'' ++ (list_box d g next).parts rest ≡ whole)
list_parts_next d g now next b r l k given line rest before before' before'' whole f el ek eg eb er h e1 e2 =
    let c = list_box d g next in
    let n = given_size d g b (place_along d r) l k in
    let all : (list_box d g now).parts r ≡ joined_parts d g b c n r =
    ap (λ (x : Box). x.parts r) f.box
    ∙ ap (λ m. joined_parts d g b c m r) (size-of d g now next b (place_along d r) l k f el ek) in
    let put : before'' ++ c.parts rest ≡ (before ++ b.parts (first_part d n r)) ++ (border_part d g n r ∷ c.parts (behind_border d g n r)) =
    ap (λ u. u ++ c.parts rest) (e2 ∙ ap (λ u. u ++ (part_of (border_kind d) line [] ∷ [])) e1)
    ∙ append_assoc (before ++ b.parts given) (part_of (border_kind d) line [] ∷ []) (c.parts rest)
    ∙ ap (λ z. (before ++ b.parts z) ++ (part_of (border_kind d) line [] ∷ c.parts rest)) eg
    ∙ ap (λ z. (before ++ b.parts (first_part d n r)) ++ (z ∷ c.parts rest)) eb
    ∙ ap (λ z. (before ++ b.parts (first_part d n r)) ++ (border_part d g n r ∷ c.parts z)) er in
    put ∙ append_assoc before (b.parts (first_part d n r)) _ ∙ ap (λ u. before ++ u) (sym all) ∙ h
