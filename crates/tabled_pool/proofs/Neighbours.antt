-- A text that draws a border is at the position, or next to it.
use Rattle.tabled_pool.proofs.Names.{AreSized, AreTiles, Around, Before, Behind, Bool, DrawingPlan, IsSized, List, None, Option, Outside}
use Rattle.tabled_pool.proofs.Names.{Part, Piece, Rectangle, RunSide, Some, [], across, ap, arith, around_at, around_part, around_text}
use Rattle.tabled_pool.proofs.Names.{beside, cond, contains, drop, false, get_or, has_top, inl, inr, is_last_row, is_line_kind, length, map}
use Rattle.tabled_pool.proofs.Names.{nat_tests, option_map, refl, run_side, drawn_part, slice_get, slice_get-get_or, slice_get-map, subst, suc}
use Rattle.tabled_pool.proofs.Names.{sym, true, unwrap_or, zero, ℕ, ⊎_elim, ◌+◌, ◌-◌, ◌<◌, ◌∙◌, ◌∷◌, ◌≡◌, ◌≤◌, ◌⊎◌}
use Rattle.tabled_pool.specs.declared.color_marks.First.{First}
use Rattle.tabled_pool.specs.declared.color_marks.RunSide.TheVariants.{Inside as Within}
use Rattle.tabled_pool.specs.Numbers.{IsEarlier, IsNumber, Skips, SkipsBeside}
use Rattle.tabled_pool.specs.Plan.{around_of}
use Rattle.tabled_pool.proofs.Listed.{number-unique, piece_owns}
use Rattle.tabled_pool.proofs.Owners.{inside-within, within-le, le-or}

-- one of the n numbers from a on is at x or next to it
record Near (a n x : ℕ) : Type 0 where
  at : ℕ
  below : at ≤ x + 1
  above : x ≤ at + 1
  from : a ≤ at
  to : at < a + n

ahead : (a n x : ℕ) → x + 1 < a → run_side a n x ≡ Outside
ahead a n x h = grind (arith, nat_tests)

past : (a n x : ℕ) → a + n < x → run_side a n x ≡ Outside
past a n x h = grind (arith, nat_tests)

touching : (a n x : ℕ) → 0 < n → a ≤ x + 1 → x ≤ a + n → Near a n x
touching a n x h i j = ⊎_elim
    (λ k. ⊎_elim
    (λ l. record { at = x; below = omega arith; above = omega arith; from = k; to = omega arith })
    (λ l. record { at = x - 1; below = omega arith; above = omega arith; from = omega arith; to = omega arith })
    (le-or (x + 1) (a + n)))
    (λ k. record { at = a; below = i; above = omega arith; from = omega arith; to = omega arith })
    (le-or a x)

near : (a n x : ℕ) → 0 < n → (run_side a n x ≡ Outside) ⊎ Near a n x
near a n x h = ⊎_elim
    (λ i. ⊎_elim (λ j. inr (touching a n x h i j)) (λ j. inl (past a n x j)) (le-or x (a + n)))
    (λ i. inl (ahead a n x i))
    (le-or a (x + 1))

abbrev no_marks : Option Around
no_marks = None

neither : (b : Bool) → cond b no_marks no_marks ≡ None
neither true = refl
neither false = refl

far-beside : (t : DrawingPlan) (r : Rectangle) (s : RunSide) (x : ℕ) → run_side r.x r.width x ≡ Outside → around_text t r s x ≡ None
far-beside t r Before x e =
    let m = t.line_marks in
    ap (λ z. cond (has_top t.borders) (across t m.top_left m.top m.top_right r z x) None) e ∙ neither (has_top t.borders)
far-beside t r Within x e = ap (beside t r) e
far-beside t r Behind x e =
    let m = t.line_marks in
    ap (λ z. cond (is_last_row t r) (across t m.bottom_left m.bottom m.bottom_right r z x) None) e ∙ neither (is_last_row t r)
far-beside t r Outside x e = refl

-- a text at or next to a position
record IsNear (p : Part) (x y : ℕ) : Type 0 where
  across : Near p.place.x p.place.width x
  down : Near p.place.y p.place.height y

text-near : (t : DrawingPlan) (p : Part) (x y : ℕ) → IsSized p → (around_part t p x y ≡ None) ⊎ IsNear p x y
text-near t p x y s =
    let b = is_line_kind p.kind in
    ⊎_elim
    (λ e. inl (ap (λ z. cond b None (around_text t p.place z x)) e ∙ neither b))
    (λ d. ⊎_elim
    (λ e. inl (ap (λ z. cond b None z) (far-beside t p.place (run_side p.place.y p.place.height y) x e) ∙ neither b))
    (λ a. inr (record { across = a; down = d }))
    (near p.place.x p.place.width x s.wide))
    (near p.place.y p.place.height y s.tall)

part-near : (t : DrawingPlan) (p : Part) (x y : ℕ) (b : Bool) → is_line_kind p.kind ≡ b → (is_line_kind p.kind ≡ false → IsSized p)
    → (around_part t p x y ≡ None) ⊎ IsNear p x y
part-near t p x y true e h = inl (ap (λ z. cond z None (around_text t p.place (run_side p.place.y p.place.height y) x)) e)
part-near t p x y false e h = text-near t p x y (h e)

-- the parts before a number draw nothing at (x, y) if those of them that are next to it don't
all-skip : (t : DrawingPlan) (x y n : ℕ) → AreSized t.parts
    → ((u v : ℕ) → u ≤ x + 1 → x ≤ u + 1 → v ≤ y + 1 → y ≤ v + 1 → Skips t x y n u v)
    → (k : ℕ) (p : Part) → k < n → slice_get t.parts k ≡ Some p → around_part t p x y ≡ None
all-skip t x y n s h k p l e = ⊎_elim
    (λ z. z)
    (λ z.
    let a = z.across in
    let d = z.down in
    let w = inside-within p.place a.at d.at (record { left = a.from; right = a.to; top = d.from; bottom = d.to }) in
    let c : contains p.place a.at d.at ≡ true = rw w refl in
    h a.at d.at a.below a.above d.below d.above k p l e c)
    (part-near t p x y (is_line_kind p.kind) refl (s k p e))

around_rest : (t : DrawingPlan) (x y : ℕ) (ps : List Part) (n : ℕ)
    → ((k : ℕ) (p : Part) → k < n → slice_get ps k ≡ Some p → around_part t p x y ≡ None) → around_at t ps x y ≡ around_at t (drop n ps) x y
around_rest t x y [] zero h = refl
around_rest t x y [] (suc n) h = refl
around_rest t x y (p ∷ ps) zero h = refl
around_rest t x y (p ∷ ps) (suc n) h =
    ap (λ o. unwrap_or o (around_at t ps x y)) (h zero p (omega arith) refl)
    ∙ around_rest t x y ps n (λ k q l e. h (suc k) q (omega arith) e)

around-here : (t : DrawingPlan) (x y : ℕ) (ps : List Part) (n : ℕ) (p : Part) (a : Around) → slice_get ps n ≡ Some p
    → Some a ≡ around_part t p x y → a ≡ around_at t (drop n ps) x y
around-here t x y [] n p a h e = cc
around-here t x y (q ∷ ps) zero p a h e =
    let s : q ≡ p = cc in
    ap (λ o. unwrap_or o (around_at t ps x y)) (e ∙ ap (λ z. around_part t z x y) (sym s))
around-here t x y (q ∷ ps) (suc n) p a h e = around-here t x y ps n p a h e

listed : (ps : List Piece) (n : ℕ) (d : Piece) → n < length ps → slice_get (map drawn_part ps) n ≡ Some (drawn_part (get_or ps n d))
listed ps n d l = slice_get-map drawn_part ps n ∙ ap (option_map drawn_part) (slice_get-get_or ps n d l)

-- the marks of the piece of a number are those of the pieces from it on
pub piece_marks : (t : DrawingPlan) (x y : ℕ) (ps : List Piece) (n : ℕ) (d : Piece) (a : Around) → n < length ps
    → Some a ≡ around_part t (drawn_part (get_or ps n d)) x y → a ≡ around_at t (drop n (map drawn_part ps)) x y
piece_marks t x y ps n d a l e = around-here t x y (map drawn_part ps) n (drawn_part (get_or ps n d)) a (listed ps n d l) e

pub no_marks_here : (t : DrawingPlan) (x y : ℕ) (ps : List Piece) (n : ℕ) (d : Piece) (p : Part) → n < length ps
    → None ≡ around_part t (drawn_part (get_or ps n d)) x y → slice_get (map drawn_part ps) n ≡ Some p → around_part t p x y ≡ None
no_marks_here t x y ps n d p l e h =
    let s : drawn_part (get_or ps n d) ≡ p = cc (listed ps n d l) in
    subst (λ z. around_part t z x y ≡ None) s (sym e)

-- a position has one number
pub one_number : (ps : List Piece) (r : Rectangle) (u v k n : ℕ) (q : Part) → AreTiles (map drawn_part ps) r → IsNumber ps u v (Some n)
    → slice_get (map drawn_part ps) k ≡ Some q → contains q.place u v ≡ true → (k ≡ n) × (slice_get (map drawn_part ps) n ≡ Some q)
one_number ps r u v k n q d i h c =
    let e = i.1 ∙ piece_owns (map drawn_part ps) r k u v q d h c in
    (number-unique (map drawn_part ps) k n u v q h e (grind (arith, nat_tests)) (omega (arith, d u v, within-le r u v)), e)

-- the marks of the first piece of those on three lines
pub marks_known : (t : DrawingPlan) (x y : ℕ) (f0 f1 f2 f3 : First) → AreSized t.parts → f0.x ≡ x → IsEarlier t y f0 f1 → IsEarlier t y f1 f2
    → IsEarlier t y f2 f3 → SkipsBeside t y f0 f1 (y - 1) → SkipsBeside t y f1 f2 y → SkipsBeside t y f2 f3 (y + 1)
    → around_of f3.marks ≡ around_at t t.parts x y
marks_known t x y f0 f1 f2 f3 s z0 e1 e2 e3 b1 b2 b3 =
    let z1 : f1.x ≡ x = e1.column ∙ z0 in
    let z2 : f2.x ≡ x = e2.column ∙ z1 in
    let z3 : f3.x ≡ x = e3.column ∙ z2 in
    let skip : (u v : ℕ) → u ≤ x + 1 → x ≤ u + 1 → v ≤ y + 1 → y ≤ v + 1 → Skips t x y f3.number u v = λ u v a b c d k p l h i.
    ⊎_elim
    (λ m. ⊎_elim
    (λ n.
    let w : v ≡ y = omega arith in
    subst (λ z. around_part t p z y ≡ None) z1 (b2 u (omega (arith, z1)) (omega (arith, z1)) k p (omega (arith, e3.fewer)) h
    (subst (λ z. contains p.place u z ≡ true) w i)))
    (λ n.
    let w : v ≡ y - 1 = omega arith in
    subst (λ z. around_part t p z y ≡ None) z0 (b1 u (omega (arith, z0)) (omega (arith, z0)) k p (omega (arith, e2.fewer, e3.fewer)) h
    (subst (λ z. contains p.place u z ≡ true) w i)))
    (le-or y v))
    (λ m.
    let w : v ≡ y + 1 = omega arith in
    subst (λ z. around_part t p z y ≡ None) z2 (b3 u (omega (arith, z2)) (omega (arith, z2)) k p l h
    (subst (λ z. contains p.place u z ≡ true) w i)))
    (le-or v y) in
    let m = e3.first in
    m.marks ∙ ap (λ z. around_at t (drop f3.number t.parts) z y) z3
    ∙ sym (around_rest t x y t.parts f3.number (all-skip t x y f3.number s skip))
