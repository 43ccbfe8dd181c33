-- What columns give, the least sizes first.
use Rattle.tabled_priority.proofs.Names.{List, ap, arith, at, if◌then◌else◌, length, nat_le, nat_tests, spare, spare_if_up_to, spare_total}
use Rattle.tabled_priority.proofs.Names.{spare_up_to, sum, sum-below, sum_below, sum_below-le, sum_below-plus, sum_below-same}
use Rattle.tabled_priority.proofs.Names.{sum_below-zero, ℕ, ◌+◌, ◌<◌, ◌∙◌, ◌≡◌, ◌≤◌}

-- columns of size 0 give nothing
pub spare_up_to-zero : (values mins : List ℕ) → spare_up_to values mins 0 ≡ 0
spare_up_to-zero values mins = sum_below-zero (spare_if_up_to values mins 0) (length values) (λ i _. grind (arith, nat_tests))

pub spare_up_to-le : (values mins : List ℕ) (x y : ℕ) → x ≤ y → spare_up_to values mins x ≤ spare_up_to values mins y
spare_up_to-le values mins x y h = sum_below-le (spare_if_up_to values mins x) (spare_if_up_to values mins y) (length values)
    (λ i _. grind (arith, nat_tests))

pub all_up_to : (v s top : ℕ) → v ≤ top → (if nat_le v top then s else 0) ≡ s
all_up_to v s top h = grind (arith, nat_tests)

pub none_up_to : (v s top : ℕ) → top < v → (if nat_le v top then s else 0) ≡ 0
none_up_to v s top h = grind (arith, nat_tests)

-- all columns are up to the greatest size
pub spare_up_to-all : (values mins : List ℕ) (top : ℕ) → ((i : ℕ) → at values i ≤ top) → spare_up_to values mins top ≡ spare_total values mins
spare_up_to-all values mins top h =
    sum_below-same (spare_if_up_to values mins top) (spare values mins) (length values)
    (λ i _. all_up_to (at values i) (spare values mins i) top (h i))

-- the sum of a list from which each column gave f
pub sum-each : (f : ℕ → ℕ) (old new : List ℕ) → length new ≡ length old → ((i : ℕ) → at new i + f i ≡ at old i)
    → sum new + sum_below f (length old) ≡ sum old
sum-each f old new len each =
    let a = sum-below new ∙ ap (sum_below (at new)) len in
    let b = sum-below old in
    let c = sum_below-plus (at new) f (length old) in
    let d = sum_below-same (λ i. at new i + f i) (at old) (length old) (λ i _. each i) in
    omega arith
