-- A place that is covered once has one owner.
use Rattle.tabled_pool.proofs.Names.{List, Part, Rectangle, Some, [], ap, arith, covering, nat_tests, owner, refl, slice_get, spans, subst}
use Rattle.tabled_pool.proofs.Names.{suc, sym, within, zero, ℕ, ⊎_elim, ◌*◌, ◌+◌, ◌<◌, ◌∙◌, ◌∷◌, ◌≡◌, ◌≤◌, ◌⊎◌}
use Rattle.std.proofs.Math.Nat.{mul-zero, zero-mul}
use Rattle.std.proofs.lemmas.Nat.{mul-le}

pub record Inside (r : Rectangle) (x y : ℕ) : Type 0 where
  pub left : r.x ≤ x
  pub right : x < r.x + r.width
  pub top : r.y ≤ y
  pub bottom : y < r.y + r.height

spans-1 : (a n p : ℕ) → a ≤ p → p < a + n → spans a n p ≡ 1
unfolding spans
spans-1 a n p h i = grind (arith, nat_tests)

spans-from : (a n p : ℕ) → 0 < spans a n p → (a ≤ p) × (p < a + n)
unfolding spans
spans-from a n p h = (grind (arith, nat_tests), grind (arith, nat_tests))

pub inside-within : (r : Rectangle) (x y : ℕ) → Inside r x y → within r x y ≡ 1
inside-within r x y i = rw (spans-1 r.x r.width x i.left i.right, spans-1 r.y r.height y i.top i.bottom) refl

spans-le : (a n p : ℕ) → spans a n p ≤ 1
unfolding spans
spans-le a n p = grind (arith, nat_tests)

pub within-le : (r : Rectangle) (x y : ℕ) → within r x y ≤ 1
within-le r x y = mul-le (spans r.x r.width x) (spans r.y r.height y) 1 1 (spans-le r.x r.width x) (spans-le r.y r.height y)

mul-pos : (a b : ℕ) → a * b ≡ 1 → (0 < a) × (0 < b)
mul-pos zero b h = absurd (omega (arith, zero-mul b))
mul-pos (suc a) zero h = absurd (omega (arith, mul-zero (suc a)))
mul-pos (suc a) (suc b) h = (omega arith, omega arith)

pub within-inside : (r : Rectangle) (x y : ℕ) → within r x y ≡ 1 → Inside r x y
within-inside r x y h =
    let e = mul-pos (spans r.x r.width x) (spans r.y r.height y) h in
    let across = spans-from r.x r.width x e.0 in
    let down = spans-from r.y r.height y e.1 in
    record { left = across.0; right = across.1; top = down.0; bottom = down.1 }

-- the owner, by the first part
pub owner-here : (p : Part) (ps : List Part) (x y : ℕ) → within p.place x y ≡ 1 → owner (p ∷ ps) x y ≡ Some p
owner-here p ps x y h = grind (arith, nat_tests)

pub owner-behind : (p : Part) (ps : List Part) (x y : ℕ) → (within p.place x y ≡ 1 → ⊥) → owner (p ∷ ps) x y ≡ owner ps x y
owner-behind p ps x y h = grind (arith, nat_tests)

pub le-or : (a b : ℕ) → (a ≤ b) ⊎ (b < a)
le-or a b = grind arith

pub is-1 : (n : ℕ) → (n ≡ 1) ⊎ (n ≡ 1 → ⊥)
is-1 n = grind arith

pub owner-inside : (ps : List Part) (x y : ℕ) (p : Part) → owner ps x y ≡ Some p → within p.place x y ≡ 1
owner-inside [] x y p h = cc
owner-inside (q ∷ ps) x y p h = ⊎_elim
    (λ w. let e : q ≡ p = cc (owner-here q ps x y w) in subst (λ z. within z.place x y ≡ 1) e w)
    (λ w. owner-inside ps x y p (sym (owner-behind q ps x y w) ∙ h))
    (is-1 (within q.place x y))

pub owner-some : (ps : List Part) (x y : ℕ) → 0 < covering ps x y → (p : Part) × (owner ps x y ≡ Some p)
owner-some [] x y h = absurd (omega arith)
owner-some (q ∷ ps) x y h = ⊎_elim
    (λ w. (q, owner-here q ps x y w))
    (λ w. let found = owner-some ps x y (omega (arith, within-le q.place x y)) in (found.0, owner-behind q ps x y w ∙ found.1))
    (is-1 (within q.place x y))

pub item-counts : (ps : List Part) (k x y : ℕ) (p : Part) → slice_get ps k ≡ Some p → within p.place x y ≡ 1 → 1 ≤ covering ps x y
item-counts [] k x y p h w = cc
item-counts (q ∷ ps) zero x y p h w =
    let e : q ≡ p = cc in
    let f : within q.place x y ≡ 1 = subst (λ z. within z.place x y ≡ 1) (sym e) w in omega arith
item-counts (q ∷ ps) (suc k) x y p h w = let f = item-counts ps k x y p h w in omega (arith, f)

-- where a place is covered once, a part of the list that contains it is its owner
pub item-owns : (ps : List Part) (k x y : ℕ) (p : Part) → slice_get ps k ≡ Some p → within p.place x y ≡ 1 → covering ps x y ≤ 1
    → owner ps x y ≡ Some p
item-owns [] k x y p h w c = cc
item-owns (q ∷ ps) zero x y p h w c =
    let e : q ≡ p = cc in
    owner-here q ps x y (subst (λ z. within z.place x y ≡ 1) (sym e) w) ∙ ap (λ z. Some z) e
item-owns (q ∷ ps) (suc k) x y p h w c =
    let one = item-counts ps k x y p h w in
    owner-behind q ps x y (λ z. omega (arith, one)) ∙ item-owns ps k x y p h w (omega arith)

owner-listed : (ps : List Part) (x y : ℕ) (p : Part) → owner ps x y ≡ Some p → (k : ℕ) × (slice_get ps k ≡ Some p)
owner-listed [] x y p h = cc
owner-listed (q ∷ ps) x y p h = ⊎_elim
    (λ w. (0, sym (owner-here q ps x y w) ∙ h))
    (λ w. let i = owner-listed ps x y p (sym (owner-behind q ps x y w) ∙ h) in (suc i.0, i.1))
    (is-1 (within q.place x y))

-- a part that owns some place counts wherever it lies, and owns each place that it covers
pub counted : (ps : List Part) (x y u v : ℕ) (p : Part) → owner ps x y ≡ Some p → within p.place u v ≡ 1 → 1 ≤ covering ps u v
counted ps x y u v p h i = let k = owner-listed ps x y p h in item-counts ps k.0 u v p k.1 i

pub owner-unique : (ps : List Part) (x y u v : ℕ) (p : Part) → owner ps x y ≡ Some p → within p.place u v ≡ 1
    → covering ps u v ≤ 1 → owner ps u v ≡ Some p
owner-unique ps x y u v p h i c = let k = owner-listed ps x y p h in item-owns ps k.0 u v p k.1 i c
