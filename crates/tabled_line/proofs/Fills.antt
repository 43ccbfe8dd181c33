-- Runs of one character.
use Rattle.tabled_line.proofs.Names.{IsCharBoundary, List, ap, append-nil, append_assoc, arith, drop, fill, get_or, get_or_append_left}
use Rattle.tabled_line.proofs.Names.{length, refl, slice_range, suc, sym, take, zero, zero-add, ℕ, ◌++◌, ◌+◌, ◌-◌, ◌<◌, ◌∙◌, ◌∷◌, ◌≡◌, ◌≤◌}
use Rattle.std.proofs.Common.{encode_utf8, suc-add}
use Rattle.std.proofs.lemmas.Str.{IsCharBoundary-from_ascii, encode_ascii}

fill-append : (c m n : ℕ) → fill c m ++ fill c n ≡ fill c (m + n)
fill-append c zero n = ap (fill c) (sym (zero-add n))
fill-append c (suc m) n =
    append_assoc (encode_utf8 c) (fill c m) (fill c n) ∙ ap (λ u. encode_utf8 c ++ u) (fill-append c m n)
    ∙ ap (fill c) (sym (suc-add m n))

pub fill-add : (c m n k : ℕ) → m + n ≡ k → fill c k ≡ fill c m ++ fill c n
fill-add c m n k e = sym (fill-append c m n ∙ ap (fill c) e)

pub fill-more : (c n : ℕ) → fill c (n + 1) ≡ fill c n ++ encode_utf8 c
fill-more c n = fill-add c n 1 (n + 1) refl ∙ ap (λ u. fill c n ++ u) (append-nil (encode_utf8 c))

pub fill-parts : (c a b d k : ℕ) → a + (b + d) ≡ k → fill c k ≡ fill c a ++ (fill c b ++ fill c d)
fill-parts c a b d k e = fill-add c a (b + d) k e ∙ ap (λ u. fill c a ++ u) (fill-add c b d (b + d) refl)

pub fill-one : (c i k : ℕ) → i < k → fill c k ≡ fill c i ++ (encode_utf8 c ++ fill c (k - i - 1))
fill-one c i k h = fill-add c i (suc (k - i - 1)) k (omega arith)

-- ---- runs of a byte

fill-byte : (c n : ℕ) → c < 128 → fill c (suc n) ≡ c ∷ fill c n
fill-byte c n small = ap (λ u. u ++ fill c n) (encode_ascii c small)

fill-take : (c n m : ℕ) → c < 128 → n ≤ m → take n (fill c m) ≡ fill c n
fill-take c zero m small h = refl
fill-take c (suc n) zero small h = absurd (omega arith)
fill-take c (suc n) (suc m) small h =
    ap (take (suc n)) (fill-byte c m small) ∙ ap (λ u. c ∷ u) (fill-take c n m small (omega arith)) ∙ sym (fill-byte c n small)

pub fill-range : (c n m : ℕ) → c < 128 → n ≤ m → slice_range (fill c m) 0 n ≡ fill c n
fill-range c n m small h = let e : n - 0 ≡ n = omega arith in ap (λ k. take k (fill c m)) e ∙ fill-take c n m small h

-- of copies before a text, the last n
pub fill-drop : (c k n : ℕ) (rest : List ℕ) → c < 128 → drop k (fill c (k + n) ++ rest) ≡ fill c n ++ rest
fill-drop c zero n rest small = ap (λ j. fill c j ++ rest) (zero-add n)
fill-drop c (suc k) n rest small =
    ap (λ j. drop (suc k) (fill c j ++ rest)) (suc-add k n) ∙ ap (λ u. drop (suc k) (u ++ rest)) (fill-byte c (k + n) small) ∙ fill-drop c k n rest small

pub fill-length : (c n : ℕ) → c < 128 → length (fill c n) ≡ n
fill-length c zero small = refl
fill-length c (suc n) small = ap length (fill-byte c n small) ∙ ap suc (fill-length c n small)

fill-ascii : (c n i : ℕ) → c < 128 → get_or (fill c n) i 0 < 128
fill-ascii c zero i small = omega arith
fill-ascii c (suc n) zero small = rw (fill-byte c n small) small
fill-ascii c (suc n) (suc i) small = rw (fill-byte c n small) (fill-ascii c n i small)

-- a byte of copies before a text
pub fill-first_bytes : (c n i : ℕ) (rest : List ℕ) → c < 128 → i < n → get_or (fill c n ++ rest) i 0 < 128
fill-first_bytes c n i rest small l =
    let e = get_or_append_left (fill c n) rest 0 i (omega (arith, fill-length c n small)) in
    let a = fill-ascii c n i small in
    omega arith

pub fill-boundary : (c i n : ℕ) → c < 128 → i ≤ n → IsCharBoundary (fill c n) i
fill-boundary c i n small h =
    IsCharBoundary-from_ascii (fill c n) i (λ k. fill-ascii c n k small) (omega (arith, fill-length c n small))
