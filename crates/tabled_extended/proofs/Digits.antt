-- How many digits a number has.
use Rattle.tabled_extended.proofs.Names.{List, [], arith, decimal, length, length_push, suc, zero, ℕ, ◌++◌, ◌+◌, ◌<◌, ◌^◌, ◌∷◌, ◌≡◌, ◌≤◌}
use Rattle.std.proofs.Common.{◌*◌, ◌/◌, ◌%◌}
use Rattle.std.proofs.lemmas.Fmt.{decimal_by_steps}
use Rattle.std.proofs.Math.Nat.{pow-succ'}

-- a number between two powers of ten has a digit for each
abbrev Has : ℕ → List ℕ → Type 0
Has n ds = (k : ℕ) → 10 ^ k ≤ n → n < 10 * 10 ^ k → length ds ≡ k + 1

ten_pos : (k : ℕ) → 0 < 10 ^ k
ten_pos zero = omega arith
ten_pos (suc k) = let p = ten_pos k in omega (arith, pow-succ' 10 k)

one_digit : (n : ℕ) → n < 10 → Has n ((48 + n) ∷ [])
one_digit n h zero low high = omega arith
one_digit n h (suc k) low high = let p = ten_pos k in absurd (omega (arith, h, low, pow-succ' 10 k))

more_digits : (n : ℕ) (ds : List ℕ) → 10 ≤ n → Has (n / 10) ds → Has n (ds ++ ((48 + n % 10) ∷ []))
more_digits n ds h p zero low high = absurd (omega (arith, h, high))
more_digits n ds h p (suc k) low high =
    let power = pow-succ' 10 k in
    let less : 10 ^ k ≤ n / 10 = omega (arith, low, power) in
    let past : n / 10 < 10 * 10 ^ k = omega (arith, high, power) in
    omega (arith, p k less past, length_push ds (48 + n % 10))

pub digits_of_log : (n k : ℕ) → n < 2 ^ 64 → 10 ^ k ≤ n → n < 10 * 10 ^ k → length (decimal n) ≡ k + 1
digits_of_log n k fits low high = decimal_by_steps Has one_digit more_digits n fits k low high
