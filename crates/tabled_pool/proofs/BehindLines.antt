-- Each text of a framed tree stands behind a line, where one stands between boxes side by side and at the left.
use Rattle.tabled_pool.proofs.Names.{Across, Bar, Box, BoxSpacing, Direction, Down, IsUtf8, IsUtf8-nil, Leaf, List, None, Option, Part}
use Rattle.tabled_pool.proofs.Names.{Rectangle, Rule, Sides, Some, TableValue, [], ap, arith, behind_border, border_part, box_of, covering}
use Rattle.tabled_pool.proofs.Names.{first_part, framed, given_size, inl, inr, is_border_before, is_line, is_line_kind, joined_box}
use Rattle.tabled_pool.proofs.Names.{leaf_box, needed_by, owner, part_of, place_along, refl, rest_part, subst, suc, sym, true, within, zero}
use Rattle.tabled_pool.proofs.Names.{ℕ, ⊎_elim, ◌++◌, ◌+◌, ◌-◌, ◌<◌, ◌∙◌, ◌∷◌, ◌≡◌, ◌≤◌, ◌⊎◌}
use Rattle.tabled_pool.proofs.Directions.{shares}
use Rattle.tabled_pool.proofs.Owners.{Inside, inside-within, within-inside, within-le, owner-inside, owner-here, owner-behind, counted}
use Rattle.tabled_pool.proofs.Owners.{is-1}
use Rattle.tabled_pool.proofs.Tiling.{IsFilled, border-line, covering-append, filled, framed-tiles}
use Rattle.tabled_pool.proofs.Trees.{IsKept, of-tree, tree-utf8}

-- ---- the owner of a place in two lists of parts

owner-first : (ps qs : List Part) (x y : ℕ) (p : Part) → owner ps x y ≡ Some p → owner (ps ++ qs) x y ≡ Some p
owner-first [] qs x y p h = cc
owner-first (q ∷ ps) qs x y p h = ⊎_elim
    (λ w. owner-here q (ps ++ qs) x y w ∙ (sym (owner-here q ps x y w) ∙ h))
    (λ w. owner-behind q (ps ++ qs) x y w ∙ owner-first ps qs x y p (sym (owner-behind q ps x y w) ∙ h))
    (is-1 (within q.place x y))

owner-either : (ps qs : List Part) (x y : ℕ) (p : Part) → owner (ps ++ qs) x y ≡ Some p → (owner ps x y ≡ Some p) ⊎ (owner qs x y ≡ Some p)
owner-either [] qs x y p h = inr h
owner-either (q ∷ ps) qs x y p h = ⊎_elim
    (λ w. inl (owner-here q ps x y w ∙ (sym (owner-here q (ps ++ qs) x y w) ∙ h)))
    (λ w. ⊎_elim
    (λ a. inl (owner-behind q ps x y w ∙ a))
    (λ b. inr b)
    (owner-either ps qs x y p (sym (owner-behind q (ps ++ qs) x y w) ∙ h)))
    (is-1 (within q.place x y))

-- where a place is covered once, its owner in the second list owns it
owner-last : (ps qs : List Part) (x y : ℕ) (p : Part) → covering (ps ++ qs) x y ≤ 1 → owner qs x y ≡ Some p → owner (ps ++ qs) x y ≡ Some p
owner-last [] qs x y p c h = h
owner-last (q ∷ ps) qs x y p c h =
    let one = counted qs x y x y p h (owner-inside qs x y p h) in
    let out : within q.place x y ≡ 1 → ⊥ = λ w. omega (arith, one, covering-append ps qs x y) in
    owner-behind q (ps ++ qs) x y out ∙ owner-last ps qs x y p (omega (arith, c)) h

-- ---- boxes

-- a text that begins at x begins at the left edge of its box, or a line stands before it
abbrev IsBehind : List Part → ℕ → ℕ → ℕ → Type 0
IsBehind ps left x y = (x ≡ left) ⊎ (is_border_before ps x y ≡ true)

record TextsBehind (g : BoxSpacing) (b : Box) : Type 0 where
  filled : IsFilled g IsUtf8 b
  behind : (r : Rectangle) (x y : ℕ) (p : Part) → b.width ≤ r.width → b.height ≤ r.height → owner (b.parts r) x y ≡ Some p
      → p.kind ≡ Leaf → p.place.x ≡ x → IsBehind (b.parts r) r.x x y

line-some : (o : Option Part) → is_line o ≡ true → (p : Part) × (o ≡ Some p)
line-some None h = cc
line-some (Some p) h = (p, refl)

-- a place of a line in the first list, and in the second
before-first : (ps qs : List Part) (x y : ℕ) → is_border_before ps x y ≡ true → is_border_before (ps ++ qs) x y ≡ true
before-first ps qs zero y h = h
before-first ps qs (suc x) y h =
    let q = line-some (owner ps x y) h in
    ap is_line (owner-first ps qs x y q.0 q.1) ∙ (sym (ap is_line q.1) ∙ h)

before-last : (ps qs : List Part) (x y : ℕ) → ((v : ℕ) → covering (ps ++ qs) v y ≤ 1) → is_border_before qs x y ≡ true
    → is_border_before (ps ++ qs) x y ≡ true
before-last ps qs zero y c h = h
before-last ps qs (suc x) y c h =
    let q = line-some (owner qs x y) h in
    ap is_line (owner-last ps qs x y q.0 (c x) q.1) ∙ (sym (ap is_line q.1) ∙ h)

-- a line at the place before x
before-here : (ps qs : List Part) (q : Part) (x y m : ℕ) → x ≡ suc m → covering (ps ++ q ∷ qs) m y ≤ 1
    → within q.place m y ≡ 1 → is_line_kind q.kind ≡ true
    → is_border_before (ps ++ q ∷ qs) x y ≡ true
before-here ps qs q x y m e c w l =
    subst (λ v. is_border_before (ps ++ q ∷ qs) v y ≡ true) (sym e)
    (ap is_line (owner-last ps (q ∷ qs) m y q c (owner-here q qs m y w)) ∙ l)

no-leaf : (q : Part) (qs : List Part) (x y : ℕ) (p : Part) → is_line_kind q.kind ≡ true → owner (q ∷ qs) x y ≡ Some p → p.kind ≡ Leaf
    → owner qs x y ≡ Some p
no-leaf q qs x y p l o k = ⊎_elim
    (λ w. let e : q ≡ p = cc (owner-here q qs x y w) in cc (sym l ∙ (ap (λ z. is_line_kind z.kind) e ∙ ap is_line_kind k)))
    (λ w. sym (owner-behind q qs x y w) ∙ o)
    (is-1 (within q.place x y))

-- ---- rows and columns

-- what the parts cover once, those behind the first ones cover at most once
at-most : (ps qs : List Part) (q : Part) (r : Rectangle) (x y : ℕ) → covering (ps ++ q ∷ qs) x y ≡ within r x y
    → (covering (ps ++ q ∷ qs) x y ≤ 1) × (covering (q ∷ qs) x y ≤ 1)
at-most ps qs q r x y e =
    let le = within-le r x y in
    (omega (arith, e, le), omega (arith, e, le, covering-append ps (q ∷ qs) x y))

first-edge : (d : Direction) (n : ℕ) (r : Rectangle) → (first_part d n r).x ≡ r.x
first-edge Across n r = refl
first-edge Down n r = refl

-- at the left edge of the boxes behind a border
second-edge : (d : Direction) (g : BoxSpacing) → g.bar ≡ 1 → (n : ℕ) (ps qs : List Part) (r : Rectangle) (x y : ℕ)
    → Inside (behind_border d g n r) x y → ((v : ℕ) → covering (ps ++ border_part d g n r ∷ qs) v y ≤ 1)
    → x ≡ (behind_border d g n r).x → IsBehind (ps ++ border_part d g n r ∷ qs) r.x x y
second-edge Across g e n ps qs r x y i once j =
    let bar = border_part Across g n r in
    inr (before-here ps qs bar x y (r.x + n) (omega (arith, j, e)) (once (r.x + n))
    (inside-within bar.place (r.x + n) y (record { left = omega arith; right = omega (arith, e); top = i.top; bottom = i.bottom })) refl)
second-edge Down g e n ps qs r x y i once j = inl j

joined-behind : (g : BoxSpacing) → g.bar ≡ 1 → (d : Direction) (k : ℕ) (b c : Box) → 0 < k → TextsBehind g b → TextsBehind g c
    → TextsBehind g (joined_box d g k b c)
joined-behind g e d count b c z0 t u =
    let all : IsFilled g IsUtf8 (joined_box d g count b c) = (filled g IsUtf8 IsUtf8-nil).joined d count b c z0 t.filled u.filled in
    record {
      filled = all;
      behind = λ r x y p w h o k s.
          let n = given_size d g b (place_along d r) (needed_by d g b c) count in
          let sh = shares d g count b c r z0 w h in
          let line = border_part d g n r in
          let last = behind_border d g n r in
          let ps = b.parts (first_part d n r) in
          let qs = c.parts last in
          let once : (v : ℕ) → (covering (ps ++ line ∷ qs) v y ≤ 1) × (covering (line ∷ qs) v y ≤ 1) =
          λ v. at-most ps qs line r v y (all.once r v y w h) in
          ⊎_elim
          (λ a. ⊎_elim (λ i. inl (i ∙ first-edge d n r)) (λ i. inr (before-first ps (line ∷ qs) x y i))
          (t.behind (first_part d n r) x y p sh.wide sh.tall a k s))
          (λ a.
          let z = no-leaf line qs x y p (border-line d) a k in
          let some = counted qs x y x y p z (owner-inside qs x y p z) in
          let covers = u.filled.once last x y sh.rest_wide sh.rest_tall in
          let i = within-inside last x y (omega (arith, some, covers, within-le last x y)) in
          ⊎_elim
          (λ j. second-edge d g e n ps qs r x y i (λ v. (once v).0) j)
          (λ j. inr (before-last ps (line ∷ qs) x y (λ v. (once v).0) (before-last (line ∷ []) qs x y (λ v. (once v).1) j)))
          (u.behind last x y p sh.rest_wide sh.rest_tall z k s))
          (owner-either ps (line ∷ qs) x y p o);
    }

leaf-behind : (g : BoxSpacing) (text : List ℕ) → IsUtf8 text → TextsBehind g (leaf_box g text)
leaf-behind g text h = record {
  filled = (filled g IsUtf8 IsUtf8-nil).leaf text h;
  behind = λ r x y p w h o k s. ⊎_elim
      (λ i. let e : part_of Leaf r text ≡ p = cc (owner-here (part_of Leaf r text) [] x y i) in inl (sym s ∙ sym (ap (λ z. z.place.x) e)))
      (λ i. cc (owner-behind (part_of Leaf r text) [] x y i))
      (is-1 (within r x y));
}

tree-behind : (g : BoxSpacing) → g.bar ≡ 1 → (t : TableValue) → TextsBehind g (box_of g t)
tree-behind g e t =
    let kept : IsKept g IsUtf8 (TextsBehind g) = record { empty = IsUtf8-nil; leaf = leaf-behind g; joined = joined-behind g e } in
    of-tree kept t (tree-utf8 t)

-- a tree in its frame: a line stands before each text
pub framed-behind : (g : BoxSpacing) → g.bar ≡ 1 → (t : TableValue) (e : Sides ℕ) (w : Rectangle) → e.left ≡ 1
    → e.left + (box_of g t).width + e.right ≤ w.width → e.top + (box_of g t).height + e.bottom ≤ w.height
    → (x y : ℕ) (p : Part) → owner (framed e (box_of g t) w) x y ≡ Some p → p.kind ≡ Leaf → p.place.x ≡ x
    → is_border_before (framed e (box_of g t) w) x y ≡ true
unfolding framed
framed-behind g f t e w l h v x y p o k s =
    let b = box_of g t in
    let rest = rest_part Across e.left w in
    let middle = first_part Across (rest.width - e.right) rest in
    let below = rest_part Down e.top middle in
    let left = part_of Bar (first_part Across e.left w) [] in
    let right = part_of Bar (rest_part Across (rest.width - e.right) rest) [] in
    let top = part_of Rule (first_part Down e.top middle) [] in
    let bottom = part_of Rule (rest_part Down (below.height - e.bottom) below) [] in
    let inner = first_part Down (below.height - e.bottom) below in
    let ls = right ∷ (top ∷ (bottom ∷ [])) in
    let qs = b.parts inner in
    let all = left ∷ (ls ++ qs) in
    let once : (u : ℕ) → covering all u y ≡ within w u y = λ u. framed-tiles g t e w h v u y in
    let i = within-inside w x y (omega (arith, counted all x y x y p o (owner-inside all x y p o), once x, within-le w x y)) in
    let o1 = no-leaf left (ls ++ qs) x y p refl o k in
    let o2 = no-leaf right (top ∷ (bottom ∷ qs)) x y p refl o1 k in
    let o3 = no-leaf top (bottom ∷ qs) x y p refl o2 k in
    let o4 = no-leaf bottom qs x y p refl o3 k in
    ⊎_elim
    (λ j. before-here [] (ls ++ qs) left x y w.x (omega (arith, j, l)) (omega (arith, once w.x, within-le w w.x y))
    (inside-within left.place w.x y (record { left = omega arith; right = omega (arith, l); top = i.top; bottom = i.bottom })) refl)
    (λ j. before-last (left ∷ ls) qs x y (λ u. omega (arith, once u, within-le w u y)) j)
    ((tree-behind g f t).behind inner x y p (omega arith) (omega arith) o4 k s)
