-- Sums over indices.
use Rattle.std.proofs.Common.{◌≡◌, ◌≢◌, ℕ, ◌+◌, ◌<◌, ◌≤◌, List, [], ◌∷◌, length, sum, refl, sym, subst, arith, ⊎_elim, zero, suc}
use Rattle.std.proofs.lemmas.List.Sums.{sum_by-cons}
use Rattle.std.proofs.lemmas.Bool.{cases_lt}
use Rattle.tabled_priority.specs.Permitted.{at}
use Rattle.tabled_priority.specs.Sums.{sum_below}

pub sum_below-same : (f g : ℕ → ℕ) (n : ℕ) → ((i : ℕ) → i < n → f i ≡ g i) → sum_below f n ≡ sum_below g n
sum_below-same f g zero h = refl
sum_below-same f g (suc n) h = let r = sum_below-same f g n (λ i l. h i (omega arith)) in let e = h n (omega arith) in omega arith

pub sum_below-le : (f g : ℕ → ℕ) (n : ℕ) → ((i : ℕ) → i < n → f i ≤ g i) → sum_below f n ≤ sum_below g n
sum_below-le f g zero h = omega arith
sum_below-le f g (suc n) h = let r = sum_below-le f g n (λ i l. h i (omega arith)) in let e = h n (omega arith) in omega arith

pub sum_below-plus : (f g : ℕ → ℕ) (n : ℕ) → sum_below (λ i. f i + g i) n ≡ sum_below f n + sum_below g n
sum_below-plus f g zero = refl
sum_below-plus f g (suc n) = let r = sum_below-plus f g n in omega arith

pub sum_below-zero : (f : ℕ → ℕ) (n : ℕ) → ((i : ℕ) → i < n → f i ≡ 0) → sum_below f n ≡ 0
sum_below-zero f zero h = refl
sum_below-zero f (suc n) h = let r = sum_below-zero f n (λ i l. h i (omega arith)) in let e = h n (omega arith) in omega arith

-- one term is at most the sum
pub sum_below-term : (f : ℕ → ℕ) (n i : ℕ) → i < n → f i ≤ sum_below f n
sum_below-term f zero i l = absurd (omega arith)
sum_below-term f (suc n) i l = ⊎_elim
    (λ (below : i < n). let r = sum_below-term f n i below in omega arith)
    (λ (past : n ≤ i). let e : n ≡ i = omega arith in subst (λ k. f k ≤ sum_below f (suc n)) e (omega arith))
    (cases_lt i n)

-- a sum of fewer terms is at most the sum
pub sum_below-prefix : (f : ℕ → ℕ) (m n : ℕ) → m ≤ n → sum_below f m ≤ sum_below f n
sum_below-prefix f m zero h = let e : m ≡ 0 = omega arith in subst (λ k. sum_below f k ≤ 0) (sym e) (omega arith)
sum_below-prefix f m (suc n) h = ⊎_elim
    (λ (below : m < suc n). let r = sum_below-prefix f m n (omega arith) in omega arith)
    (λ (past : suc n ≤ m). let e : m ≡ suc n = omega arith in subst (λ k. sum_below f k ≤ sum_below f (suc n)) (sym e) (omega arith))
    (cases_lt m (suc n))

-- if one term is less by d, so is the sum
pub sum_below-less : (f g : ℕ → ℕ) (n i d : ℕ) → i < n → g i + d ≡ f i → ((j : ℕ) → j ≢ i → g j ≡ f j) → sum_below g n + d ≡ sum_below f n
sum_below-less f g zero i d l here there = absurd (omega arith)
sum_below-less f g (suc n) i d l here there = ⊎_elim
    (λ (below : i < n). let r = sum_below-less f g n i d below here there in let e = there n (λ q. omega arith) in omega arith)
    (λ (past : n ≤ i).
    let e : i ≡ n = omega arith in
    let h : g n + d ≡ f n = subst (λ k. g k + d ≡ f k) e here in
    let r = sum_below-same g f n (λ j b. there j (λ q. omega arith)) in omega arith)
    (cases_lt i n)

sum_below-first : (f : ℕ → ℕ) (n : ℕ) → sum_below f (suc n) ≡ f 0 + sum_below (λ i. f (suc i)) n
sum_below-first f zero = omega arith
sum_below-first f (suc n) = let r = sum_below-first f n in omega arith

-- the sum of a list
pub sum-below : (xs : List ℕ) → sum xs ≡ sum_below (at xs) (length xs)
sum-below [] = refl
sum-below (x ∷ xs) =
    let r = sum-below xs in
    let e : sum_below (at (x ∷ xs)) (suc (length xs)) ≡ x + sum_below (at xs) (length xs) = sum_below-first (at (x ∷ xs)) (length xs) in
    omega (arith, sum_by-cons (λ (z : ℕ). z) x xs)
