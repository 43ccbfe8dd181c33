-- How many columns are out on a line where it comes to a place, and whose place that is.
use Rattle.tabled_pool.proofs.Names.{AreTiles, Bar, DrawingPlan, Kind, Leaf, None, Option, Part, Rectangle, Rule, Some, [], ap, arith, inl}
use Rattle.tabled_pool.proofs.Names.{inr, is_line_kind, leaf_line, nat_tests, owner, part_text, refl, subst, suc, sym, true, whole, within}
use Rattle.tabled_pool.proofs.Names.{zero, ℕ, ⊎_elim, ◌+◌, ◌-◌, ◌<◌, ◌∙◌, ◌≡◌, ◌≤◌, ◌⊎◌}
use Rattle.tabled_pool.proofs.Owners.{Inside, inside-within, within-inside, within-le, owner-inside, owner-some, owner-unique, counted}
use Rattle.tabled_pool.proofs.Owners.{is-1, le-or}

-- the columns that are out once the places below n are written
abbrev pub ahead_kind : Kind → Rectangle → ℕ → ℕ
ahead_kind Leaf r n = r.x + r.width
ahead_kind Bar r n = suc n
ahead_kind Rule r n = suc n

abbrev pub ahead_of : Option Part → ℕ → ℕ
ahead_of None n = suc n
ahead_of (Some p) n = ahead_kind p.kind p.place n

abbrev pub ahead : DrawingPlan → ℕ → ℕ → ℕ
ahead t y zero = 0
ahead t y (suc n) = ahead_of (owner t.parts n y) n

pub whole-inside : (t : DrawingPlan) (x y : ℕ) → x < t.width → y < t.height → within (whole t) x y ≡ 1
whole-inside t x y h i = inside-within (whole t) x y (record { left = omega arith; right = omega arith; top = omega arith; bottom = omega arith })

pub owned : (t : DrawingPlan) (d : AreTiles t.parts (whole t)) (x y : ℕ) → x < t.width → y < t.height → (p : Part) × (owner t.parts x y ≡ Some p)
owned t d x y h i = owner-some t.parts x y (omega (arith, d x y, whole-inside t x y h i))

pub unique : (t : DrawingPlan) (d : AreTiles t.parts (whole t)) (x y u v : ℕ) (p : Part) → owner t.parts x y ≡ Some p → within p.place u v ≡ 1
    → owner t.parts u v ≡ Some p
unique t d x y u v p h i = owner-unique t.parts x y u v p h i (omega (arith, d u v, within-le (whole t) u v))

pub record Begins (t : DrawingPlan) (y n : ℕ) (p : Part) : Type 0 where
  pub start : p.place.x ≡ n
  pub out : ahead t y n ≡ n

pub record Goes (t : DrawingPlan) (y n : ℕ) (p : Part) : Type 0 where
  pub started : p.place.x < n
  pub out : ahead t y n ≡ ahead_kind p.kind p.place (n - 1)

not-beyond : (q : Part) (m y : ℕ) → Inside q.place m y → (within q.place (suc m) y ≡ 1 → ⊥) → q.place.x + q.place.width ≤ suc m
not-beyond q m y i out = ⊎_elim
    (λ h. h)
    (λ h. absurd (out (inside-within q.place (suc m) y (record { left = omega (arith, i.left); right = h; top = i.top; bottom = i.bottom }))))
    (le-or (q.place.x + q.place.width) (suc m))

begins : (p : Part) (m y : ℕ) → Inside p.place (suc m) y → (within p.place m y ≡ 1 → ⊥) → p.place.x ≡ suc m
begins p m y i out = ⊎_elim
    (λ h. absurd (out (inside-within p.place m y (record { left = h; right = omega (arith, i.right); top = i.top; bottom = i.bottom }))))
    (λ h. omega (arith, i.left, h))
    (le-or p.place.x m)

pub leaf-begins : (t : DrawingPlan) (p : Part) (n y : ℕ) → p.place.x ≡ n → part_text t Leaf p n y ≡ leaf_line t p (y - p.place.y)
leaf-begins t p n y e = grind (arith, nat_tests)

pub leaf-goes : (t : DrawingPlan) (p : Part) (n y : ℕ) → p.place.x < n → part_text t Leaf p n y ≡ []
leaf-goes t p n y e = grind (arith, nat_tests)

-- the columns out behind the place m, where what stands there doesn't go on
stops-kind : (t : DrawingPlan) (d : AreTiles t.parts (whole t)) (y m : ℕ) (q : Part) (k : Kind) → q.kind ≡ k → owner t.parts m y ≡ Some q
    → (within q.place (suc m) y ≡ 1 → ⊥) → ahead_kind k q.place m ≡ suc m
stops-kind t d y m q Bar e h out = refl
stops-kind t d y m q Rule e h out = refl
stops-kind t d y m q Leaf e h out =
    let i = within-inside q.place m y (owner-inside t.parts m y q h) in
    let low : m + 1 ≤ q.place.x + q.place.width = omega (arith, i.right) in
    let high = not-beyond q m y i out in omega arith

pub before : (t : DrawingPlan) (d : AreTiles t.parts (whole t)) (y n : ℕ) (p : Part) → n < t.width → y < t.height → owner t.parts n y
    ≡ Some p → Begins t y n p ⊎ Goes t y n p
before t d y zero p h v o =
    let i = within-inside p.place zero y (owner-inside t.parts zero y p o) in
    inl (record { start = omega (arith, i.left); out = refl })
before t d y (suc m) p h v o =
    let i = within-inside p.place (suc m) y (owner-inside t.parts (suc m) y p o) in
    ⊎_elim
    (λ w.
    let same = unique t d (suc m) y m y p o w in
    let j = within-inside p.place m y w in
    let e : suc m - 1 ≡ m = omega arith in
    inr (record { started = omega (arith, j.left); out = ap (λ z. ahead_of z m) same ∙ ap (ahead_kind p.kind p.place) (sym e) }))
    (λ w.
    let q = owned t d m y (omega arith) v in
    let out : within q.0.place (suc m) y ≡ 1 → ⊥ = λ z.
    let same : q.0 ≡ p = cc (unique t d m y (suc m) y q.0 q.1 z, o) in
    w (subst (λ u. within u.place m y ≡ 1) same (owner-inside t.parts m y q.0 q.1)) in
    inl (record {
      start = begins p m y i w;
      out = ap (λ z. ahead_of z m) q.1 ∙ stops-kind t d y m q.0 q.0.kind refl q.1 out;
    }))
    (is-1 (within p.place m y))

-- a place of a line begins where all before it is out
goes-line : (t : DrawingPlan) (y n : ℕ) (p : Part) (k : Kind) → p.kind ≡ k → is_line_kind k ≡ true → Goes t y n p → ahead t y n ≡ n
goes-line t y n p Leaf e l g = cc
goes-line t y n p Bar e l g =
    let f : ahead t y n ≡ suc (n - 1) = g.out ∙ ap (λ k. ahead_kind k p.place (n - 1)) e in omega (arith, f, g.started)
goes-line t y n p Rule e l g =
    let f : ahead t y n ≡ suc (n - 1) = g.out ∙ ap (λ k. ahead_kind k p.place (n - 1)) e in omega (arith, f, g.started)

pub out-line : (t : DrawingPlan) (y n : ℕ) (p : Part) (k : Kind) → p.kind ≡ k → is_line_kind k ≡ true → Begins t y n p ⊎ Goes t y n p → ahead t y n ≡ n
out-line t y n p k e l (inl b) = b.out
out-line t y n p k e l (inr g) = goes-line t y n p k e l g

pub out-leaf : (t : DrawingPlan) (y n : ℕ) (p : Part) → p.kind ≡ Leaf → Goes t y n p → ahead t y n ≡ p.place.x + p.place.width
out-leaf t y n p e g = g.out ∙ ap (λ k. ahead_kind k p.place (n - 1)) e

-- nothing reaches past the right edge
pub ends : (t : DrawingPlan) (d : AreTiles t.parts (whole t)) (y n : ℕ) → n ≡ t.width → y < t.height → ahead t y n ≡ n
ends t d y zero e v = refl
ends t d y (suc m) e v =
    let q = owned t d m y (omega arith) v in
    let out : within q.0.place (suc m) y ≡ 1 → ⊥ = λ z.
    let c = counted t.parts m y (suc m) y q.0 q.1 z in
    let o = within-inside (whole t) (suc m) y (omega (arith, c, d (suc m) y, within-le (whole t) (suc m) y)) in
    omega (arith, o.right) in
    ap (λ z. ahead_of z m) q.1 ∙ stops-kind t d y m q.0 q.0.kind refl q.1 out
