-- Owners of positions in parts that tile a rectangle.
use Rattle.tabled_pool.proofs.Names.{AreTiles, List, None, Part, Piece, Rectangle, Some, [], add-one, ap, arith, contains, covering, drop}
use Rattle.tabled_pool.proofs.Names.{drop-cons, get_or, length, map, nat_tests, option_map, owner, refl, drawn_part, slice_get, slice_get-get_or}
use Rattle.tabled_pool.proofs.Names.{slice_get-map, slice_get_read, subst, suc, sym, true, within, zero, ℕ, ⊎_elim, ◌+◌, ◌<◌, ◌∙◌, ◌∷◌, ◌≡◌}
use Rattle.tabled_pool.proofs.Names.{◌≤◌, ◌⊎◌}
use Rattle.tabled_pool.proofs.Owners.{within-inside, within-le, owner-here, owner-behind, item-counts, item-owns, is-1}

-- a place that no part covers has no owner
pub owner-none : (ps : List Part) (x y : ℕ) → covering ps x y ≡ 0 → owner ps x y ≡ None
owner-none [] x y h = refl
owner-none (p ∷ ps) x y h = owner-behind p ps x y (λ w. omega arith) ∙ owner-none ps x y (omega arith)

-- nothing is outside of the rectangle
pub outside : (ps : List Part) (r : Rectangle) (x y : ℕ) → AreTiles ps r → (r.x + r.width ≤ x) ⊎ (r.y + r.height ≤ y) → owner ps x y ≡ None
outside ps r x y d h = owner-none ps x y (⊎_elim
    (λ w. absurd (let i = within-inside r x y w in ⊎_elim (λ a. omega (arith, i.right)) (λ a. omega (arith, i.bottom)) h))
    (λ w. omega (arith, d x y, within-le r x y))
    (is-1 (within r x y)))

pub piece_owns : (ps : List Part) (r : Rectangle) (k x y : ℕ) (p : Part) → AreTiles ps r → slice_get ps k ≡ Some p
    → contains p.place x y ≡ true → owner ps x y ≡ Some p
piece_owns ps r k x y p d h c =
    item-owns ps k x y p h (grind (arith, nat_tests)) (omega (arith, d x y, within-le r x y))

-- the part that contains a position has one number
pub number-unique : (ps : List Part) (j k x y : ℕ) (p : Part) → slice_get ps j ≡ Some p → slice_get ps k ≡ Some p → within p.place x y ≡ 1
    → covering ps x y ≤ 1 → j ≡ k
number-unique [] j k x y p h i w c = cc
number-unique (q ∷ ps) zero zero x y p h i w c = refl
number-unique (q ∷ ps) zero (suc k) x y p h i w c =
    let e : q ≡ p = cc in
    let f : within q.place x y ≡ 1 = subst (λ z. within z.place x y ≡ 1) (sym e) w in
    absurd (let g = item-counts ps k x y p i w in omega (arith, g))
number-unique (q ∷ ps) (suc j) zero x y p h i w c =
    let e : q ≡ p = cc in
    let f : within q.place x y ≡ 1 = subst (λ z. within z.place x y ≡ 1) (sym e) w in
    absurd (let g = item-counts ps j x y p h w in omega (arith, g))
number-unique (q ∷ ps) (suc j) (suc k) x y p h i w c = ap suc (number-unique ps j k x y p h i w (omega arith))

-- a listed piece that contains a position is its owner
pub listed_owns : (ps : List Piece) (r : Rectangle) (k x y : ℕ) (p : Piece) → AreTiles (map drawn_part ps) r → k < length ps → p ≡ get_or ps k p
    → contains p.place x y ≡ true → Some (drawn_part p) ≡ owner (map drawn_part ps) x y
listed_owns ps r k x y p d h e c =
    sym (piece_owns (map drawn_part ps) r k x y (drawn_part p) d
    (slice_get-map drawn_part ps k ∙ ap (option_map drawn_part) (slice_get_read ps (length ps) k p refl h e)) c)

-- the first piece that contains a position
pub found-first : (ps : List Piece) (k x y : ℕ) (d : Piece) → k < length ps → contains (get_or ps k d).place x y ≡ true
    → owner (map drawn_part (drop k ps)) x y ≡ owner (map drawn_part ps) x y → slice_get (map drawn_part ps) k ≡ owner (map drawn_part ps) x y
found-first ps k x y d h c i =
    let q = get_or ps k d in
    let cons : drop k ps ≡ q ∷ drop (k + 1) ps = rw (add-one, drop-cons ps k d) refl in
    slice_get-map drawn_part ps k ∙ ap (option_map drawn_part) (slice_get-get_or ps k d h)
    ∙ sym (owner-here (drawn_part q) (map drawn_part (drop (k + 1) ps)) x y (grind (arith, nat_tests)))
    ∙ ap (λ zs. owner (map drawn_part zs) x y) (sym cons) ∙ i
