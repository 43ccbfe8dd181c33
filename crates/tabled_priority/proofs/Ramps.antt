-- What columns take as a level rises: linear between the levels at which columns start and end.
use Rattle.tabled_priority.proofs.Names.{IsBase, IsReached, amount, ap, arith, cases_lt, is_open, min, nat_le, nat_lt, nat_tests, one_if}
use Rattle.tabled_priority.proofs.Names.{open_count, suc, sum_below-le, sum_below-plus, sum_below-same, sum_below-zero, sym, total_amount}
use Rattle.tabled_priority.proofs.Names.{zero, ℕ, ⊎_elim, ◌&&◌, ◌*◌, ◌+◌, ◌-◌, ◌<◌, ◌∙◌, ◌≡◌, ◌≤◌}
use Rattle.std.proofs.Math.Nat.{suc-mul}

one_more : (a b x : ℕ) → min (x + 1) b - a ≡ (min x b - a) + one_if (nat_le a x && nat_lt x b)
one_more a b x = grind (arith, nat_tests)

pub amount-more : (from to : ℕ → ℕ) (x i : ℕ) → amount from to (x + 1) i ≡ amount from to x i + one_if (is_open from to x i)
amount-more from to x i = one_more (from i) (to i) x

pub total_amount-more : (from to : ℕ → ℕ) (n x : ℕ) → total_amount from to n (x + 1) ≡ total_amount from to n x + open_count from to n x
total_amount-more from to n x =
    sum_below-same (amount from to (x + 1)) (λ i. amount from to x i + one_if (is_open from to x i)) n (λ i _. amount-more from to x i)
    ∙ sum_below-plus (amount from to x) (λ i. one_if (is_open from to x i)) n

pub total_amount-le : (from to : ℕ → ℕ) (n x y : ℕ) → x ≤ y → total_amount from to n x ≤ total_amount from to n y
total_amount-le from to n x y h = sum_below-le (amount from to x) (amount from to y) n (λ i _. omega arith)

-- nothing is taken at level 0
pub total_amount-zero : (from to : ℕ → ℕ) (n : ℕ) → total_amount from to n 0 ≡ 0
total_amount-zero from to n = sum_below-zero (amount from to 0) n (λ i _. omega arith)

same_open : (a b x y : ℕ) → x ≤ y → (x < a → y < a) → (x < b → y < b) → (nat_le a y && nat_lt y b) ≡ (nat_le a x && nat_lt x b)
same_open a b x y h p q = grind (arith, nat_tests)

-- above a base the same columns are open, until as much as wanted is taken
open_count-same : (from to : ℕ → ℕ) (n wanted base level : ℕ) → IsBase from to n wanted base → base ≤ level
    → total_amount from to n level < wanted → open_count from to n level ≡ open_count from to n base
open_count-same from to n wanted base level b h less =
    sum_below-same (λ i. one_if (is_open from to level i)) (λ i. one_if (is_open from to base i)) n
    (λ i inside. ap one_if (same_open (from i) (to i) base level h
    (λ lt. ⊎_elim (λ above. above) (λ le. let s = b.starts i inside lt in
    let m = total_amount-le from to n (from i) level le in absurd (omega arith)) (cases_lt level (from i)))
    (λ lt. ⊎_elim (λ above. above) (λ le. let s = b.ends i inside lt in let m = total_amount-le from to n (to i) level le in
    absurd (omega arith)) (cases_lt level (to i)))))

pub record IsLinear (from to : ℕ → ℕ) (n base j : ℕ) : Type 0 where
  pub open' : open_count from to n (base + j) ≡ open_count from to n base
  pub total : total_amount from to n (base + j) ≡ total_amount from to n base + j * open_count from to n base

pub linear : (from to : ℕ → ℕ) (n wanted base : ℕ) → IsBase from to n wanted base → (j : ℕ)
    → total_amount from to n base + j * open_count from to n base < wanted → IsLinear from to n base j
linear from to n wanted base b zero less =
    let e : base ≡ base + 0 = omega arith in
    record {
      open' = ap (open_count from to n) (sym e);
      total = ap (total_amount from to n) (sym e) ∙ (let z : total_amount from to n base
          ≡ total_amount from to n base + 0 * open_count from to n base = omega arith in z);
    }
linear from to n wanted base b (suc j) less =
    let o = open_count from to n base in
    let p = suc-mul j o in
    let r = linear from to n wanted base b j (omega arith) in
    let e : base + suc j ≡ base + j + 1 = omega arith in
    let total : total_amount from to n (base + suc j) ≡ total_amount from to n base + suc j * o =
    ap (total_amount from to n) e ∙ (let m = total_amount-more from to n (base + j) in let a = r.open' in let t = r.total in omega arith) in
    record {
      open' = open_count-same from to n wanted base (base + suc j) b (omega arith) (omega arith);
      total = total;
    }

-- some column is open at the base
pub open_some : (from to : ℕ → ℕ) (n wanted base top : ℕ) → IsBase from to n wanted base
    → wanted ≤ total_amount from to n top → 0 < open_count from to n base
open_some from to n wanted base top b enough = ⊎_elim
    (λ pos. pos)
    (λ none.
    let below = b.below in
    let z : open_count from to n base ≡ 0 = omega arith in
    let m : top * open_count from to n base ≡ 0 = ap (λ k. top * k) z ∙ (let q : top * 0 ≡ 0 = omega arith in q) in
    let r = (linear from to n wanted base b top (omega arith)).total in
    let le = total_amount-le from to n top (base + top) (omega arith) in
    absurd (omega arith))
    (cases_lt 0 (open_count from to n base))

-- a level at which some column is open lies below the level at which all have ended
pub open_below : (from to : ℕ → ℕ) (n level top : ℕ) → ((i : ℕ) → i < n → to i ≤ top) → 0 < open_count from to n level → level < top
open_below from to n level top ends some = ⊎_elim
    (λ below. below)
    (λ past. let z = sum_below-zero (λ i. one_if (is_open from to level i)) n
    (λ i inside. closed (from i) (to i) level (let e = ends i inside in omega arith)) in absurd (omega arith))
    (cases_lt level top)
  where
    closed : (a b x : ℕ) → b ≤ x → one_if (nat_le a x && nat_lt x b) ≡ 0
    closed a b x h = grind (arith, nat_tests)

-- from the base so many levels on that less than one for each open column is left
pub reached : (from to : ℕ → ℕ) (n wanted base levels : ℕ) → IsBase from to n wanted base
    → total_amount from to n base + levels * open_count from to n base < wanted
    → wanted ≤ total_amount from to n base + (levels + 1) * open_count from to n base
    → IsReached from to n wanted (base + levels) (wanted - total_amount from to n base - levels * open_count from to n base)
reached from to n wanted base levels b less most =
    let r = linear from to n wanted base b levels less in
    let t = r.total in
    let o = r.open' in
    let p = suc-mul levels (open_count from to n base) in
    record { total = omega arith; some = omega arith; enough = omega arith }
