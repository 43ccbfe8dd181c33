-- How many open columns stand from a place round the list to another.
use Rattle.tabled_priority.proofs.Names.{Bool, IsSpan, ap, arith, cases_lt, is_met, is_open, nat_lt, nat_tests, one_if, open_count, suc}
use Rattle.tabled_priority.proofs.Names.{sum_below, sum_below-plus, sum_below-prefix, sum_below-same, true, zero, ℕ, ⊎_elim, ◌&&◌, ◌+◌, ◌-◌}
use Rattle.tabled_priority.proofs.Names.{◌<◌, ◌∙◌, ◌≡◌, ◌≤◌, ◌⊎◌}

kept : (b : Bool) (i k : ℕ) → i < k → one_if (b && nat_lt i k) ≡ one_if b
kept b i k h = grind (arith, nat_tests)

gone : (b : Bool) (i k : ℕ) → k ≤ i → one_if (b && nat_lt i k) ≡ 0
gone b i k h = grind (arith, nat_tests)

count_below : (o : ℕ → Bool) (k n : ℕ) → k ≤ n → sum_below (λ i. one_if (o i && nat_lt i k)) n ≡ sum_below (λ i. one_if (o i)) k
count_below o k zero h = let e : 0 ≡ k = omega arith in ap (sum_below (λ i. one_if (o i))) e
count_below o k (suc n) h = ⊎_elim
    (λ (less : k < suc n). let r = count_below o k n (omega arith) in let e = gone (o n) n k (omega arith) in omega arith)
    (λ (all : suc n ≤ k).
    let e : suc n ≡ k = omega arith in
    sum_below-same (λ i. one_if (o i && nat_lt i k)) (λ i. one_if (o i)) (suc n) (λ i inside. kept (o i) i k (omega arith))
    ∙ ap (sum_below (λ i. one_if (o i))) e)
    (cases_lt k (suc n))

straight : (b : Bool) (f l i : ℕ) → f ≤ l → one_if (b && is_met f l i) + one_if (b && nat_lt i f) ≡ one_if (b && nat_lt i (suc l))
straight b f l i h = grind (arith, nat_tests)

around : (b : Bool) (f l i : ℕ) → l < f → one_if (b && is_met f l i) + one_if (b && nat_lt i f) ≡ one_if b + one_if (b && nat_lt i (suc l))
around b f l i h = grind (arith, nat_tests)

pub count_straight : (o : ℕ → Bool) (n f l : ℕ) → f ≤ l → l < n → sum_below
    (λ i. one_if (o i && is_met f l i)) n + sum_below (λ i. one_if (o i)) f ≡ sum_below (λ i. one_if (o i)) (suc l)
count_straight o n f l h inside =
    let p = sum_below-plus (λ i. one_if (o i && is_met f l i)) (λ i. one_if (o i && nat_lt i f)) n in
    let s = sum_below-same (λ i. one_if (o i && is_met f l i) + one_if (o i && nat_lt i f))
    (λ i. one_if (o i && nat_lt i (suc l))) n (λ i _. straight (o i) f l i h) in
    let a = count_below o f n (omega arith) in
    let b = count_below o (suc l) n (omega arith) in
    omega arith

pub count_around : (o : ℕ → Bool) (n f l : ℕ) → l < f → f ≤ n → sum_below
    (λ i. one_if (o i && is_met f l i)) n + sum_below (λ i. one_if (o i)) f ≡ sum_below (λ i. one_if (o i)) n + sum_below (λ i. one_if (o i)) (suc l)
count_around o n f l h inside =
    let p = sum_below-plus (λ i. one_if (o i && is_met f l i)) (λ i. one_if (o i && nat_lt i f)) n in
    let q = sum_below-plus (λ i. one_if (o i)) (λ i. one_if (o i && nat_lt i (suc l))) n in
    let s = sum_below-same (λ i. one_if (o i && is_met f l i) + one_if (o i && nat_lt i f))
    (λ i. one_if (o i) + one_if (o i && nat_lt i (suc l))) n (λ i _. around (o i) f l i h) in
    let a = count_below o f n inside in
    let b = count_below o (suc l) n (omega arith) in
    omega arith

-- an open column, counted
pub open-count : (from to : ℕ → ℕ) (level l : ℕ) → is_open from to level l ≡ true → open_count from to (suc l) level ≡ open_count from to l level + 1
open-count from to level l e = let o : one_if (is_open from to level l) ≡ 1 = ap one_if e in omega arith

pub span_right : (from to : ℕ → ℕ) (n level rest first : ℕ) → first < n → open_count from to first level + rest
    ≡ open_count from to n level → IsSpan from to n level rest first (n - 1)
span_right from to n level rest first inside nth =
    let c = count_straight (is_open from to level) n first (n - 1) (omega arith) (omega arith) in
    let e : open_count from to (suc (n - 1)) level ≡ open_count from to n level = ap
    (λ k. open_count from to k level) (let z : suc (n - 1) ≡ n = omega arith in z) in
    record { first_in = inside; last_in = omega arith; count = omega arith }

pub span_round : (from to : ℕ → ℕ) (n level rest first last nth : ℕ) → first < n → last < n
    → is_open from to level last ≡ true → open_count from to last level + 1 ≡ nth
    → 0 < rest → rest ≤ open_count from to n level → open_count from to first level ≤ open_count from to n level
    → ((rest ≤ open_count from to n level - open_count from to first level) × (nth ≡ open_count from to first level + rest))
    ⊎ ((open_count from to n level - open_count from to first level < rest)
    × (nth ≡ rest - (open_count from to n level - open_count from to first level)))
    → IsSpan from to n level rest first last
span_round from to n level rest first last nth first_in last_in o at some enough within choice =
    let e = open-count from to level last o in
    record {
      first_in = first_in;
      last_in = last_in;
      count = ⊎_elim
          (λ (before : last < first).
          let c = count_around (is_open from to level) n first last before (omega arith) in
          let p = sum_below-prefix (λ i. one_if (is_open from to level i)) (suc last) first (omega arith) in
          ⊎_elim
          (λ ahead. let a = ahead.0 in let b = ahead.1 in absurd (omega arith))
          (λ over. let a = over.0 in let b = over.1 in omega arith) choice)
          (λ (after : first ≤ last).
          let c = count_straight (is_open from to level) n first last after last_in in
          let p = sum_below-prefix (λ i. one_if (is_open from to level i)) first last after in
          ⊎_elim
          (λ ahead. let a = ahead.0 in let b = ahead.1 in omega arith)
          (λ over. let a = over.0 in let b = over.1 in absurd (omega arith)) choice)
          (cases_lt last first);
    }
