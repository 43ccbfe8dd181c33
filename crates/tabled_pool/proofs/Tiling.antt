-- The parts of a tree fill its rectangle: each place is in one part, and each text is held by its part.
use Rattle.tabled_pool.proofs.Names.{Across, AreTiles, Bar, Box, BoxSpacing, Direction, Down, EachText, IsUtf8, IsUtf8-nil, Kind, Leaf}
use Rattle.tabled_pool.proofs.Names.{List, Part, Rectangle, Rule, Sides, Some, TableValue, [], arith, behind_border, border_kind}
use Rattle.tabled_pool.proofs.Names.{border_part, border_size, box_of, covering, first_part, framed, given_size, is_line_kind, joined_box}
use Rattle.tabled_pool.proofs.Names.{length, lines_of, nat_tests, needed_by, owner, part_of, place_along, refl, rest_part, spans, subst}
use Rattle.tabled_pool.proofs.Names.{sym, text_columns, tree_of, true, within, ℕ, ⊎_elim, ◌++◌, ◌+◌, ◌-◌, ◌<◌, ◌∙◌, ◌∷◌, ◌≡◌, ◌≤◌}
use Rattle.std.proofs.Math.Nat.{add-mul, mul-add}
use Rattle.tabled_pool.proofs.Directions.{shares}
use Rattle.tabled_pool.proofs.Owners.{owner-here, owner-behind, is-1}
use Rattle.tabled_pool.proofs.Trees.{IsKept, of-tree, tree-utf8}

-- ---- each part

abbrev pub EachPart : (Part → Type 0) → List Part → Type 0
EachPart P [] = Unit {0}
EachPart P (p ∷ ps) = P p × EachPart P ps

part-append : (P : Part → Type 0) (ps qs : List Part) → EachPart P ps → EachPart P qs → EachPart P (ps ++ qs)
part-append P [] qs p q = q
part-append P (x ∷ xs) qs p q = (p.0, part-append P xs qs p.1 q)

pub owner-part : (P : Part → Type 0) (ps : List Part) (x y : ℕ) (p : Part) → EachPart P ps → owner ps x y ≡ Some p → P p
owner-part P [] x y p f h = cc
owner-part P (q ∷ ps) x y p f h = ⊎_elim
    (λ w. let e : q ≡ p = cc (owner-here q ps x y w) in subst P e f.0)
    (λ w. owner-part P ps x y p f.1 (sym (owner-behind q ps x y w) ∙ h))
    (is-1 (within q.place x y))

-- the text of a part is of a kind, and the rectangle of a text is large enough for it and its padding
pub record IsHeld (g : BoxSpacing) (IsText : List ℕ → Type 0) (p : Part) : Type 0 where
  pub text : IsText p.text
  pub wide : p.kind ≡ Leaf → text_columns p.text + (g.padding.left.size + g.padding.right.size) ≤ p.place.width
  pub tall : p.kind ≡ Leaf → length (lines_of p.text) + (g.padding.top.size + g.padding.bottom.size) ≤ p.place.height

line-held : (g : BoxSpacing) (IsText : List ℕ → Type 0) → IsText [] → (k : Kind) (r : Rectangle) → is_line_kind k ≡ true
    → IsHeld g IsText (part_of k r [])
line-held g IsText e Leaf r l = cc
line-held g IsText e Bar r l = record { text = e; wide = λ k. cc; tall = λ k. cc }
line-held g IsText e Rule r l = record { text = e; wide = λ k. cc; tall = λ k. cc }

pub border-line : (d : Direction) → is_line_kind (border_kind d) ≡ true
border-line Across = refl
border-line Down = refl

-- ---- rectangles

spans-split : (a m n k p : ℕ) → m ≤ n → k ≡ a + m → spans a n p ≡ spans a m p + spans k (n - m) p
unfolding spans
spans-split a m n k p h e = grind (arith, nat_tests)

-- a rectangle is its first part and the rest
within-split : (d : Direction) (n : ℕ) (r : Rectangle) (px py : ℕ) → n ≤ place_along d r
    → within r px py ≡ within (first_part d n r) px py + within (rest_part d n r) px py
within-split Across n r px py h = rw (spans-split r.x n r.width (r.x + n) px h refl)
    (add-mul (spans r.x n px) (spans (r.x + n) (r.width - n) px) (spans r.y r.height py))
within-split Down n r px py h = rw (spans-split r.y n r.height (r.y + n) py h refl)
    (mul-add (spans r.x r.width px) (spans r.y n py) (spans (r.y + n) (r.height - n) py))

pub covering-append : (ps qs : List Part) (px py : ℕ) → covering (ps ++ qs) px py ≡ covering ps px py + covering qs px py
covering-append [] qs px py = omega arith
covering-append (p ∷ ps) qs px py = omega (arith, covering-append ps qs px py)

-- ---- boxes

-- in each rectangle that is large enough for a box, its parts cover each position once, and nothing
-- outside, and hold their texts
pub record IsFilled (g : BoxSpacing) (IsText : List ℕ → Type 0) (b : Box) : Type 0 where
  pub once : (r : Rectangle) (px py : ℕ) → b.width ≤ r.width → b.height ≤ r.height → covering (b.parts r) px py ≡ within r px py
  pub held : (r : Rectangle) → b.width ≤ r.width → b.height ≤ r.height → EachPart (IsHeld g IsText) (b.parts r)

leaf-once : (r : Rectangle) (text : List ℕ) (px py : ℕ) → covering (part_of Leaf r text ∷ []) px py ≡ within r px py
leaf-once r text px py = omega arith

joined-filled : (g : BoxSpacing) (IsText : List ℕ → Type 0) → IsText [] → (d : Direction) (k : ℕ) (b c : Box) → 0 < k
    → IsFilled g IsText b → IsFilled g IsText c → IsFilled g IsText (joined_box d g k b c)
joined-filled g IsText e d k b c z t u = record {
  once = λ r px py w h.
      let n = given_size d g b (place_along d r) (needed_by d g b c) k in
      let s = shares d g k b c r z w h in
      omega (
        arith,
        covering-append (b.parts (first_part d n r)) (border_part d g n r ∷ c.parts (behind_border d g n r)) px py,
        t.once (first_part d n r) px py s.wide s.tall,
        u.once (behind_border d g n r) px py s.rest_wide s.rest_tall,
        within-split d n r px py s.given,
        within-split d (border_size d g) (rest_part d n r) px py s.border,
      );
  held = λ r w h.
      let n = given_size d g b (place_along d r) (needed_by d g b c) k in
      let s = shares d g k b c r z w h in
      part-append (IsHeld g IsText) (b.parts (first_part d n r)) _ (t.held (first_part d n r) s.wide s.tall)
      (line-held g IsText e (border_kind d) _ (border-line d), u.held (behind_border d g n r) s.rest_wide s.rest_tall);
}

pub filled : (g : BoxSpacing) (IsText : List ℕ → Type 0) → IsText [] → IsKept g IsText (IsFilled g IsText)
filled g IsText e = record {
  empty = e;
  leaf = λ text u. record {
    once = λ r px py w h. leaf-once r text px py;
    held = λ r w h. (record { text = u; wide = λ k. w; tall = λ k. h }, tt);
  };
  joined = joined-filled g IsText e;
}

-- ---- a tree in its frame

pub framed-tiles : (g : BoxSpacing) (t : TableValue) (e : Sides ℕ) (w : Rectangle)
    → e.left + (box_of g t).width + e.right ≤ w.width → e.top + (box_of g t).height + e.bottom ≤ w.height → AreTiles (framed e (box_of g t) w) w
unfolding framed
framed-tiles g t e w h v = λ px py.
    let rest = rest_part Across e.left w in
    let middle = first_part Across (rest.width - e.right) rest in
    let below = rest_part Down e.top middle in
    let f = of-tree (filled g IsUtf8 IsUtf8-nil) t (tree-utf8 t) in
    omega (
      arith,
      within-split Across e.left w px py (omega arith),
      within-split Across (rest.width - e.right) rest px py (omega arith),
      within-split Down e.top middle px py (omega arith),
      within-split Down (below.height - e.bottom) below px py (omega arith),
      f.once (first_part Down (below.height - e.bottom) below) px py (omega arith) (omega arith),
    )

pub framed-held : (g : BoxSpacing) (IsText : List ℕ → Type 0) → IsText [] → (t : TableValue) → EachText IsText (tree_of t)
    → (e : Sides ℕ) (w : Rectangle) → e.left + (box_of g t).width + e.right ≤ w.width
    → e.top + (box_of g t).height + e.bottom ≤ w.height → EachPart (IsHeld g IsText) (framed e (box_of g t) w)
unfolding framed
framed-held g IsText n t k e w h v =
    let bar = line-held g IsText n Bar in
    let rule = line-held g IsText n Rule in
    let f = of-tree (filled g IsText n) t k in
    (bar _ refl, (bar _ refl, (rule _ refl, (rule _ refl, f.held _ (omega arith) (omega arith)))))
