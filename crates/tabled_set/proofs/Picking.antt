-- The greatest or the least of the first numbers of a sequence, one number further.
use Rattle.tabled_set.proofs.Names.{List, [], ap, arith, map, max, min, picked, range_with_len, refl, suc, zero, ℕ, ◌++◌, ◌+◌, ◌∷◌, ◌≡◌}
use Rattle.std.proofs.Common.{◌≢◌}
use Rattle.std.proofs.lemmas.List.FromFn.{map-range_with_len_more}
use Rattle.tabled_size.proofs.Greatest.{greatest_more}
use Rattle.tabled_text.specs.Measure.{greatest}
use Rattle.tabled_set.specs.Extremes.{least, least_of, Pick}

least_of-push : (x : ℕ) (xs : List ℕ) (y : ℕ) → least_of x (xs ++ y ∷ []) ≡ min (least_of x xs) y
least_of-push x [] y = refl
least_of-push x (z ∷ xs) y = let e = least_of-push z xs y in omega (arith, e)

pub greatest_next : (f : ℕ → ℕ) (n best next : ℕ) → best ≡ greatest (map f (range_with_len 0 n)) → next ≡ f n → max best next ≡ greatest (map f (range_with_len 0 (n + 1)))
greatest_next f n best next b e = let m = greatest_more f n in omega (arith, m, b, e)

pub least_next : (f : ℕ → ℕ) (n best next : ℕ) → n ≢ 0 → best ≡ least (map f (range_with_len 0 n)) → next ≡ f n → min best next ≡ least (map f (range_with_len 0 (n + 1)))
least_next f zero best next some b e = absurd (some refl)
least_next f (suc k) best next some b e =
    let n = suc k in
    let p : least (map f (range_with_len 0 n) ++ f n ∷ []) ≡ min (least (map f (range_with_len 0 n))) (f n) = least_of-push (f 0) (map f (range_with_len 1 k)) (f n) in
    let m = ap least (map-range_with_len_more f 0 n n (omega arith)) in
    omega (arith, m, p, b, e)

-- a pick of some numbers and the next one
abbrev pub Picks : Pick → ℕ → ℕ → ℕ → ℕ → Type 0
Picks pick n best next answer = (f : ℕ → ℕ) → best ≡ picked pick (map f (range_with_len 0 n)) → next ≡ f n → answer ≡ picked pick (map f (range_with_len 0 (n + 1)))
