-- Runs of bytes that pass a test, and blocks of bytes that are tested at once.
use Rattle.tabled_text.proofs.Names.{Bool, List, [], agree_below_at, and_from, and_le_r, and_parts, ap, arith, bit_and, cases_lt, chunk}
use Rattle.tabled_text.proofs.Names.{cond, drop, eqb, eqb-true, false, get_or, get_or-drop, get_or-map, get_or-take, inl, inr}
use Rattle.tabled_text.proofs.Names.{is_in_range, length, length-append, length-chunk, length-drop, length-map, length-take-le, list_all}
use Rattle.tabled_text.proofs.Names.{list_all-append, ltb, map, map-map, mask_l, mask_l-mod, nat_tests, ne_eqb, not, refl, replicate, subst}
use Rattle.tabled_text.proofs.Names.{suc, sum_by, sum_by-cons, sum_l, sym, take, take-add, take-append-drop, take-take, true, w8, zero}
use Rattle.tabled_text.proofs.Names.{zip2_splat, ℕ, ◌%◌, ◌&&◌, ◌*◌, ◌++◌, ◌+◌, ◌-◌, ◌/◌, ◌<◌, ◌==◌, ◌^◌, ◌||◌, ◌∙◌, ◌∷◌, ◌≡◌, ◌≤◌}
use Rattle.std.proofs.lemmas.List.Folds.{list_all_at}
use Rattle.std.specs.List.{prefix_len}
use Rattle.std.specs.Simd.Lanes.{Each1, sel_l, top, zip2}
use lib.Count.{count_trailing_zeros}
use Rattle.std.proofs.lemmas.Simd.{Each1-all, Each1-get_or, Each1-weaker, Each1-zip2, Each2-splat, SwzOk, SwzOk-from_below, below_from_Fits}
use Rattle.std.proofs.lemmas.Simd.{get_or-swz_l_below, length-replicate, length-swz_l, length-zip2, swz_l, trailing_mask_l}
use Rattle.std.proofs.Common.{Fits, ap₂}
use Rattle.std.proofs.lemmas.Bool.{agree_below}
use Rattle.std.proofs.lemmas.List.{ext_get_or}
use Rattle.std.specs.Str.{bytes_eq}
use Rattle.std.proofs.lemmas.Slice.Eq.{bytes_eq-Decides}
use Rattle.tabled_text.proofs.Basics.{all-parts}

all-of : (test : ℕ → Bool) (xs : List ℕ) → ((k : ℕ) → k < length xs → test (get_or xs k 0) ≡ true) → list_all test xs ≡ true
all-of test [] h = refl
all-of test (x ∷ xs) h = ap (λ b. b && list_all test xs) (h 0 (omega arith)) ∙ all-of test xs (λ k l. h (suc k) (omega arith))

-- where a run reaches the end, all behind its beginning passes
pub run-all : (test : ℕ → Bool) (xs : List ℕ) (from end : ℕ) → ((k : ℕ) → from ≤ k → k < end → test (get_or xs k 0) ≡ true)
    → length xs ≤ end → list_all test (drop from xs) ≡ true
run-all test xs from end run e =
    all-of test (drop from xs) (λ k l. ap test (get_or-drop from xs k 0) ∙ run (from + k) (omega arith) (omega (arith, l, e, length-drop from xs)))

-- and else not
pub run-some : (test : ℕ → Bool) (xs : List ℕ) (from end : ℕ) → from ≤ end → end < length xs → test (get_or xs end 0) ≡ false
    → list_all test (drop from xs) ≡ false
run-some test xs from end o l stop =
    let place : from + (end - from) ≡ end = omega arith in
    list_all_at test (drop from xs) (end - from) 0 (omega (arith, length-drop from xs))
    (ap test (get_or-drop from xs (end - from) 0 ∙ ap (λ i. get_or xs i 0) place) ∙ stop)

-- the bytes before the end of a run pass
pub run-front : (test : ℕ → Bool) (xs : List ℕ) (end : ℕ) → end ≤ length xs → ((k : ℕ) → 0 ≤ k → k < end → test (get_or xs k 0) ≡ true)
    → list_all test (take end xs) ≡ true
run-front test xs end o run =
    let len = length-take-le end xs o in
    all-of test (take end xs) (λ k l. let within : k < end = omega arith in ap test (get_or-take end xs k 0 within) ∙ run k (omega arith) within)

-- where the beginning passes, what follows a place within it decides
pub rest-decides : (test : ℕ → Bool) (xs : List ℕ) (k at : ℕ) → k ≤ at → list_all test (take at xs) ≡ true
    → list_all test xs ≡ list_all test (drop k xs)
rest-decides test xs k at o h =
    let own = (all-parts test k (take at xs) h).0 in
    ap (list_all test) (sym (take-append-drop k xs)) ∙ list_all-append test (take k xs) (drop k xs)
    ∙ ap (λ b. b && list_all test (drop k xs)) (sym (ap (list_all test) (take-take k at xs o)) ∙ own)

-- a beginning that passes goes on with a block
pub all-more : (test : ℕ → Bool) (xs : List ℕ) (at n : ℕ) → list_all test (take at xs) ≡ true → list_all test (take n (drop at xs)) ≡ true
    → list_all test (take (at + n) xs) ≡ true
all-more test xs at n h k =
    ap (list_all test) (take-add at n xs) ∙ list_all-append test (take at xs) (take n (drop at xs))
    ∙ and_from (list_all test (take at xs)) (list_all test (take n (drop at xs))) h k

-- and fails where the block does
pub some-fails : (test : ℕ → Bool) (xs : List ℕ) (at n : ℕ) → list_all test (take at xs) ≡ true
    → list_all test (take n (drop at xs)) ≡ false → list_all test xs ≡ false
some-fails test xs at n h k =
    let rest = drop at xs in
    rest-decides test xs at at (omega arith) h ∙ ap (list_all test) (sym (take-append-drop n rest)) ∙ list_all-append test (take n rest) (drop n rest)
    ∙ ap (λ b. b && list_all test (drop n rest)) k

-- ---- blocks within a range

-- a byte lies outside of a range where it is past the range that was lowered to 0
lowered-outside : (first last x : ℕ) → first ≤ last → last < 256 → x < 256
    → ltb (last - first) ((x + (256 - first)) % 256) ≡ not (is_in_range first last x)
lowered-outside first last x o small byte = elim (cases_lt x first) [
  | inl lt ↦
      let e : (x + (256 - first)) % 256 ≡ x + (256 - first) = omega arith in
      rw e (grind (arith, nat_tests))
  | inr ge ↦
      let e : (x + (256 - first)) % 256 ≡ x - first = omega arith in
      rw e (grind (arith, nat_tests))
]

pub same-tests : (first last : ℕ) → first ≤ last → last < 256 → (xs : List ℕ) → Each1 (Fits w8) xs
    → map (λ x. ltb (last - first) ((x + (256 - first)) % 256)) xs ≡ map (λ x. not (is_in_range first last x)) xs
same-tests first last o small [] h = refl
same-tests first last o small (x ∷ xs) h =
    let own = h.0 in
    let byte = own.fits in
    ap (λ b. b ∷ map (λ x. ltb (last - first) ((x + (256 - first)) % 256)) xs) (lowered-outside first last x o small byte)
    ∙ ap (λ bs. not (is_in_range first last x) ∷ bs) (same-tests first last o small xs h.1)

-- the lowest bit that is set stands for the first byte that passes
pub lowest-is-first : (p : ℕ → Bool) (xs : List ℕ) (at mask : ℕ) → at + 16 ≤ length xs → mask ≡ mask_l (map p (chunk at 16 xs)) → 0 < mask
    → count_trailing_zeros 64 mask ≡ prefix_len (λ x. not (p x)) (chunk at 16 xs)
lowest-is-first p xs at mask room e some =
    ap (count_trailing_zeros 64) e
    ∙ trailing_mask_l p 64 (chunk at 16 xs) (omega (arith, length-chunk at 16 xs room)) (subst (λ m. 0 < m) e some)

-- ---- blocks whose lanes are computed, held to the tests of letters at each of the 256 bytes

each-test : (f g : ℕ → Bool) → agree_below f g 256 ≡ true → (v : List ℕ) → Each1 (Fits w8) v → map f v ≡ map g v
each-test f g all [] h = refl
each-test f g all (x ∷ xs) h = ap₂ (λ a b. a ∷ b) (agree_below_at f g 256 x all h.0.fits) (each-test f g all xs h.1)

-- a mask is empty where all pass the test
mask-all : (q : ℕ → Bool) (xs : List ℕ) → eqb (mask_l (map (λ x. not (q x)) xs)) 0 ≡ list_all q xs
mask-all q [] = refl
mask-all q (x ∷ xs) = join (q x) (mask_l (map (λ y. not (q y)) xs)) (list_all q xs) (mask-all q xs)
  where
    join : (b : Bool) (mask : ℕ) (rest : Bool) → eqb mask 0 ≡ rest → eqb (cond (not b) 1 0 + 2 * mask) 0 ≡ (b && rest)
    join true mask rest h = grind (arith, nat_tests)
    join false mask rest h = ne_eqb (1 + 2 * mask) 0 (λ e. omega arith)

-- lanes whose top bit is that of a test which fails
pub all-lanes : (f : ℕ → ℕ) (q : ℕ → Bool) (v z : List ℕ) → length v ≤ 64 → Each1 (Fits w8) v → z ≡ map f v
    → agree_below (λ x. top 7 (f x)) (λ x. not (q x)) 256 ≡ true → eqb (mask_l (map (top 7) z) % 2 ^ 64) 0 ≡ list_all q v
all-lanes f q v z short fits e all =
    let p : ℕ → Bool = λ x. not (q x) in
    ap (λ l. eqb (mask_l l % 2 ^ 64) 0) (ap (map (top 7)) e ∙ map-map (top 7) f v ∙ each-test (λ x. top 7 (f x)) p all v fits)
    ∙ ap (λ m. eqb m 0) (mask_l-mod (map p v) 64 (omega (arith, length-map v p))) ∙ mask-all q v

-- numbers of lanes that pass a test
pub each-passed : (q : ℕ → Bool) (f g : ℕ → ℕ) → agree_below (λ x. not (q x) || (f x == g x)) (λ _. true) 256 ≡ true
    → (v : List ℕ) → Each1 (Fits w8) v → list_all q v ≡ true → map f v ≡ map g v
each-passed q f g all [] h p = refl
each-passed q f g all (x ∷ xs) h p =
    let parts = and_parts (q x) (list_all q xs) p in
    let own = agree_below_at (λ y. not (q y) || (f y == g y)) (λ _. true) 256 x all h.0.fits in
    ap₂ (λ a b. a ∷ b) (eqb-true (f x) (g x) (sym (ap (λ b. not b || (f x == g x)) parts.0) ∙ own)) (each-passed q f g all xs h.1 parts.1)

-- ---- a table of 16 numbers, which is read at places g x

pub looked-up : (t : List ℕ) (g : ℕ → ℕ) (v js : List ℕ) → length v ≡ 16 → Each1 (Fits w8) v → js ≡ map g v → ((x : ℕ) → x < 256 → g x < 16)
    → swz_l w8 16 t 0 js ≡ map (λ x. get_or t (g x) 0) v
looked-up t g v js size fits e small =
    let long : length js ≡ 16 = ap length e ∙ length-map v g ∙ size in
    ext_get_or 0 _ _ (length-swz_l w8 16 t 0 js ∙ long ∙ sym (length-map v (λ x. get_or t (g x) 0) ∙ size)) (λ i h.
    let lt : i < length js = omega (arith, h, length-swz_l w8 16 t 0 js) in
    let within : i < length v = omega (arith, lt, long, size) in
    let is : get_or js i 0 ≡ g (get_or v i 0) = ap (λ l. get_or l i 0) e ∙ get_or-map g v i 0 0 within in
    let byte : get_or v i 0 < 256 = (Each1-get_or (Fits w8) v i 0 within fits).fits in
    let below : get_or js i 0 < 16 = omega (arith, is, small (get_or v i 0) byte) in
    let place : 16 * ((0 + i) / 16) + get_or js i 0 ≡ g (get_or v i 0) = omega (arith, is, lt, long) in
    get_or-swz_l_below w8 16 t 0 js i lt below ∙ ap (λ k. get_or t k 0) place ∙ sym (get_or-map (λ x. get_or t (g x) 0) v i 0 0 within))

pub upper-ok : (v : List ℕ) → length v ≡ 16 → Each1 (Fits w8) v → SwzOk w8 16 16 0 (zip2 (λ a b. a / 2 ^ b) v (replicate 16 4))
upper-ok v size fits =
    let small = Each1-weaker (λ a. a < 256) (λ a. a / 16 < 16) (λ a h. omega arith) v (below_from_Fits w8 v fits) in
    SwzOk-from_below w8 16 1 16 0 (zip2 (λ a b. a / 2 ^ b) v (replicate 16 4)) refl (omega (arith, length-zip2 (λ a b. a / 2 ^ b) v (replicate 16 4) size))
    (Each1-zip2 (λ a b. a / 2 ^ b) (λ j. j < 16) v (replicate 16 4) (Each2-splat (λ a b. a / 2 ^ b < 16) v 16 4 small))

pub lower-ok : (v : List ℕ) → length v ≡ 16 → SwzOk w8 16 16 0 (zip2 bit_and v (replicate 16 15))
lower-ok v size =
    let small = Each1-all (λ a. bit_and a 15 < 16) (λ a. omega (arith, and_le_r a 15)) v in
    SwzOk-from_below w8 16 1 16 0 (zip2 bit_and v (replicate 16 15)) refl (omega (arith, length-zip2 bit_and v (replicate 16 15) size))
    (Each1-zip2 bit_and (λ j. j < 16) v (replicate 16 15) (Each2-splat (λ a b. bit_and a b < 16) v 16 15 small))

pub sum-map : (f : ℕ → ℕ) (v : List ℕ) → sum_l (map f v) ≡ sum_by f v
sum-map f [] = refl
sum-map f (x ∷ xs) = omega (arith, sum-map f xs, sum_by-cons f x xs)

-- ---- a block that is filled up to a place

abbrev is_kept : ℕ → Bool
is_kept x = top 7 (cond (eqb x 0) 255 0)

kept : (m : ℕ) (xs : List ℕ) → length xs ≡ m → sel_l (map is_kept (replicate m 0)) xs (replicate m 0) ≡ xs
kept zero [] e = refl
kept zero (x ∷ xs) e = absurd (omega (arith, e))
kept (suc m) [] e = absurd (omega (arith, e))
kept (suc m) (x ∷ xs) e = ap (λ l. x ∷ l) (kept m xs (omega (arith, e)))

filled-front : (k m : ℕ) (xs : List ℕ) → length xs ≡ k + m
    → sel_l (map is_kept (replicate k 0x80 ++ replicate m 0)) xs (replicate k 0x80 ++ replicate m 0) ≡ replicate k 0x80 ++ drop k xs
filled-front zero m xs e = kept m xs (omega (arith, e))
filled-front (suc k) m [] e = absurd (omega (arith, e))
filled-front (suc k) m (x ∷ xs) e = ap (λ l. 0x80 ∷ l) (filled-front k m xs (omega (arith, e)))

-- a block of the bytes that fill
window : (k : ℕ) → k < 17 → chunk {A = ℕ} (16 - k) 16 (replicate 16 0x80 ++ replicate 16 0) ≡ replicate k 0x80 ++ replicate (16 - k) 0
window k h =
    let block : ℕ → List ℕ = λ n. chunk {A = ℕ} (16 - n) 16 (replicate 16 0x80 ++ replicate 16 0) in
    let parts : ℕ → List ℕ = λ n. replicate n 0x80 ++ replicate (16 - n) 0 in
    (bytes_eq-Decides (block k) (parts k)).0 (agree_below_at (λ n. bytes_eq (block n) (parts n)) (λ _. true) 17 k refl h)

pub filled-block : (k : ℕ) (xs fill : List ℕ) → k ≤ 16 → length xs ≡ 16
    → fill ≡ chunk {A = ℕ} (16 - k) 16 (replicate 16 0x80 ++ replicate 16 0)
    → sel_l (map (top 7) (zip2 (λ a b. cond (eqb a b) 255 0) fill (replicate 16 0))) xs fill ≡ replicate k 0x80 ++ drop k xs
filled-block k xs fill o long e =
    let m = 16 - k in
    let is : fill ≡ replicate k 0x80 ++ replicate m 0 = e ∙ window k (omega arith) in
    let size : length fill ≡ 16 =
    omega (arith, ap length is, length-append {A = ℕ} (replicate k 0x80) (replicate m 0), length-replicate {A = ℕ} k 0x80, length-replicate {A = ℕ} m 0) in
    ap (λ l. sel_l l xs fill) (ap (map (top 7)) (zip2_splat (λ a b. cond (eqb a b) 255 0) fill 16 0 size) ∙ map-map (top 7) (λ x. cond (eqb x 0) 255 0) fill)
    ∙ ap (λ l. sel_l (map is_kept l) xs l) is ∙ filled-front k m xs (omega (arith, long))
