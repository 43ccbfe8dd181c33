-- Where batches begin, one after another.
use Rattle.tabled_table.proofs.Names.{Bool, true, LayoutIterator, List, None, Some, [], ap, arith, batches_left, cases_lt, cond, false}
use Rattle.tabled_table.proofs.Names.{length, min, nat_lt, refl, subst, suc, sym, zero, ℕ, ⊎_elim, ◌&&◌, ◌*◌, ◌+◌, ◌-◌, ◌<◌, ◌==◌, ◌^◌, ◌∙◌}
use Rattle.tabled_table.proofs.Names.{◌∷◌, ◌≡◌, ◌≤◌}
use Rattle.std.proofs.Common.{◌/◌, add-one, slice_get}
use Rattle.std.proofs.Math.Nat.{add-div_right, div-eq_of_lt}
use Rattle.std.proofs.lemmas.Bool.{le-ltb, lt-ltb, ne_eqb}
use Rattle.tabled_table.specs.Batches.{batch_at, batch_count, progression}

abbrev rounded : ℕ → ℕ → ℕ
rounded n batch = (n + (batch - 1)) / batch

-- batches of nothing are none
pub count_nothing : (from to : ℕ) → batch_count from to 0 ≡ 0
unfolding batch_count
count_nothing from to = refl

count_some : (from to batch : ℕ) → 0 < batch → batch_count from to batch ≡ rounded (to - from) batch
unfolding batch_count
count_some from to batch h =
    let some : (batch == 0) ≡ false = ne_eqb batch 0 (λ e. omega (arith)) in
    ap (λ b. cond b 0 (rounded (to - from) batch)) some

-- at the end there is none
pub count_end : (from to batch : ℕ) → to ≤ from → batch_count from to batch ≡ 0
count_end from to batch h = ⊎_elim some none (cases_lt 0 batch)
  where
    some : 0 < batch → batch_count from to batch ≡ 0
    some k =
        let few : (to - from) + (batch - 1) < batch = omega arith in
        count_some from to batch k ∙ div-eq_of_lt few

    none : batch ≤ 0 → batch_count from to batch ≡ 0
    none k = let e : 0 ≡ batch = omega arith in subst (λ b. batch_count from to b ≡ 0) e (count_nothing from to)

-- before it there is one more than from the next on
pub count_step : (from to batch : ℕ) → 0 < batch → from < to → batch_count from to batch ≡ suc (batch_count (from + batch) to batch)
count_step from to batch k h = count_some from to batch k ∙ ⊎_elim last more (cases_lt (to - from) batch) ∙ ap (λ n. suc n) (sym (count_some (from + batch) to batch k))
  where
    left : ℕ
    left = to - from

    apart : (n m : ℕ) → n + (batch - 1) ≡ m + batch → rounded n batch ≡ m / batch + 1
    apart n m e = ap (λ x. x / batch) e ∙ add-div_right m k

    last : (to - from) < batch → rounded (to - from) batch ≡ suc (rounded (to - (from + batch)) batch)
    last few =
        let first : rounded (to - from) batch ≡ ((to - from) - 1) / batch + 1 = apart (to - from) ((to - from) - 1) (omega arith) in
        let small : ((to - from) - 1) / batch ≡ 0 = div-eq_of_lt (omega arith) in
        let none : rounded (to - (from + batch)) batch ≡ 0 = div-eq_of_lt (omega arith) in
        first ∙ ap (λ n. n + 1) small ∙ add-one 0 ∙ ap (λ n. suc n) (sym none)

    more : batch ≤ (to - from) → rounded (to - from) batch ≡ suc (rounded (to - (from + batch)) batch)
    more many = apart (to - from) ((to - (from + batch)) + (batch - 1)) (omega arith) ∙ add-one _

-- ---- the beginnings

-- none are left at the end
pub left_none : (offset from to batch : ℕ) → to ≤ from → progression offset batch (batch_count from to batch) ≡ []
left_none offset from to batch h = ap (λ n. progression offset batch n) (count_end from to batch h)

-- the k-th of so many
item_in : (offset step count k : ℕ) → k < count → slice_get (progression offset step count) k ≡ Some (offset + k * step)
item_in offset step zero k h = absurd (omega arith)
item_in offset step (suc count) zero h = ap (λ n. Some n) (let e : offset ≡ offset + zero * step = omega arith in e)
item_in offset step (suc count) (suc k) h =
    item_in (offset + step) step count k (omega arith)
    ∙ ap (λ n. Some n) (let e : (offset + step) + k * step ≡ offset + suc k * step = grind arith in e)

item_past : (offset step count k : ℕ) → count ≤ k → slice_get (progression offset step count) k ≡ None
item_past offset step zero zero h = refl
item_past offset step zero (suc k) h = refl
item_past offset step (suc count) zero h = absurd (omega arith)
item_past offset step (suc count) (suc k) h = item_past (offset + step) step count k (omega arith)

-- from the beginning on they are whole batches
pub get_batches : (from to batch k : ℕ) → slice_get (progression 0 batch (batch_count (from + 0) to batch)) k ≡ batch_at from to batch k
get_batches from to batch k = ⊎_elim some none (cases_lt 0 batch)
  where
    at : (b c : Bool) → nat_lt 0 batch ≡ b → nat_lt (from + k * batch) to ≡ c
        → cond (b && c) (Some (k * batch)) None ≡ batch_at from to batch k
    at b c e f =
        ap (λ x. cond (x && c) (Some (k * batch)) None) (sym e)
        ∙ ap (λ x. cond (nat_lt 0 batch && x) (Some (k * batch)) None) (sym f)

    some : 0 < batch → slice_get (progression 0 batch (batch_count (from + 0) to batch)) k ≡ batch_at from to batch k
    some h =
        let q = rounded (to - (from + 0)) batch in
        ap (λ n. slice_get (progression 0 batch n) k) (count_some (from + 0) to batch h)
        ∙ ⊎_elim
        (λ (l : k < q).
        let whole : (k + 1) * batch ≤ q * batch = grind arith in
        item_in 0 batch q k l ∙ ap (λ n. Some n) (let z : 0 + k * batch ≡ k * batch = omega arith in z)
        ∙ at true true (lt-ltb 0 batch h) (lt-ltb (from + k * batch) to (omega arith)))
        (λ (l : q ≤ k).
        let whole : q * batch ≤ k * batch = grind arith in
        item_past 0 batch q k l ∙ at true false (lt-ltb 0 batch h) (le-ltb (from + k * batch) to (omega arith)))
        (cases_lt k q)

    none : batch ≤ 0 → slice_get (progression 0 batch (batch_count (from + 0) to batch)) k ≡ batch_at from to batch k
    none h =
        let e : batch ≡ 0 = omega arith in
        ap (λ n. slice_get (progression 0 batch n) k) (ap (batch_count (from + 0) to) e ∙ count_nothing (from + 0) to)
        ∙ item_past 0 batch 0 k (omega arith) ∙ at false (nat_lt (from + k * batch) to) (le-ltb 0 batch h) refl

-- ---- the iterator

pub done_left : (b : LayoutIterator) → b.to ≤ b.from + b.offset → batches_left b ≡ []
done_left b h = left_none b.offset (b.from + b.offset) b.to b.batch h

pub empty_left : (b : LayoutIterator) → b.batch ≡ 0 → batches_left b ≡ []
empty_left b e =
    let none : batch_count (b.from + b.offset) b.to b.batch ≡ 0 = ap (λ n. batch_count (b.from + b.offset) b.to n) e ∙ count_nothing _ _ in
    ap (λ n. progression b.offset b.batch n) none

-- where an offset passes the greatest `usize`, nothing is left behind it
pub next_left : (from to batch offset next : ℕ) → 0 < batch → from + offset < to → to < 2 ^ 64 → next ≡ min (offset + batch) (2 ^ 64 - 1)
    → progression offset batch (batch_count (from + offset) to batch) ≡ offset ∷ progression next batch (batch_count (from + next) to batch)
next_left from to batch offset next h k fits e =
    ap (λ n. progression offset batch n) (count_step (from + offset) to batch h k)
    ∙ ap (λ xs. offset ∷ xs) (⊎_elim inside past (cases_lt (offset + batch) (2 ^ 64)))
  where
    inside : offset + batch < 2 ^ 64
        → progression (offset + batch) batch (batch_count ((from + offset) + batch) to batch) ≡ progression next batch (batch_count (from + next) to batch)
    inside small =
        let same : offset + batch ≡ next = omega arith in
        let sum : (from + offset) + batch ≡ from + next = omega arith in
        ap (λ n. progression n batch (batch_count ((from + offset) + batch) to batch)) same ∙ ap (λ n. progression next batch (batch_count n to batch)) sum

    past : 2 ^ 64 ≤ offset + batch
        → progression (offset + batch) batch (batch_count ((from + offset) + batch) to batch) ≡ progression next batch (batch_count (from + next) to batch)
    past large =
        left_none (offset + batch) ((from + offset) + batch) to batch (omega arith) ∙ sym (left_none next (from + next) to batch (omega arith))

-- and each item makes the rest shorter
pub shorter : (xs ys : List ℕ) (x : ℕ) → xs ≡ x ∷ ys → length ys < length xs
shorter xs ys x e = let l : length xs ≡ suc (length ys) = ap (λ zs. length zs) e in omega arith
