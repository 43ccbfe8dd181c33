-- What the tests of a place say.
use Rattle.tabled_pool.proofs.Names.{Rectangle, arith, contains, false, ltb, nat_tests, refl, spans, ℕ, ◌+◌, ◌-◌, ◌<◌, ◌==◌, ◌≡◌, ◌≤◌}
use Rattle.std.proofs.Math.Nat.{mul-zero, one-mul, zero-mul}

spans-0 : (a n p : ℕ) → (p < a + n → p < a) → spans a n p ≡ 0
unfolding spans
spans-0 a n p h = grind (arith, nat_tests)

spans-at : (a n p : ℕ) → a ≤ p → (spans a n p == 1) ≡ ltb (p - a) n
unfolding spans
spans-at a n p h = grind (arith, nat_tests)

one : (a n p : ℕ) → a ≤ p → p - a < n → spans a n p ≡ 1
unfolding spans
one a n p h i = grind (arith, nat_tests)

pub contains_left : (r : Rectangle) (x y : ℕ) → x < r.x → contains r x y ≡ false
contains_left r x y h = rw (spans-0 r.x r.width x (λ z. h), zero-mul (spans r.y r.height y)) refl

pub contains_right : (r : Rectangle) (x y : ℕ) → r.x ≤ x → r.width ≤ x - r.x → contains r x y ≡ false
contains_right r x y h i = rw (spans-0 r.x r.width x (λ z. omega arith), zero-mul (spans r.y r.height y)) refl

pub contains_above : (r : Rectangle) (x y : ℕ) → y < r.y → contains r x y ≡ false
contains_above r x y h = rw (spans-0 r.y r.height y (λ z. h), mul-zero (spans r.x r.width x)) refl

pub contains_last : (r : Rectangle) (x y : ℕ) → r.x ≤ x → x - r.x < r.width → r.y ≤ y → contains r x y ≡ ltb (y - r.y) r.height
contains_last r x y h i j = rw (one r.x r.width x h i, one-mul (spans r.y r.height y)) (spans-at r.y r.height y j)
