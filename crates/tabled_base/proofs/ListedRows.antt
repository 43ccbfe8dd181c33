-- Rows of equal length in one list.
use Rattle.tabled_base.proofs.Names.{All, IsRectangular, List, [], ap, arith, columns, drop, length, map, refl}
use Rattle.tabled_base.proofs.Names.{set, slice_index_or, suc, sym, take, zero, ℕ, ◌+◌, ◌<◌, ◌∙◌, ◌∷◌, ◌≡◌, ◌≤◌}
use Rattle.std.proofs.Common.{◌*◌}
use Rattle.std.proofs.Math.Nat.{mul-le-mul_right, suc-mul, zero-mul}
use Rattle.std.proofs.Math.Seq.{take-set-lt}
use Rattle.std.proofs.lemmas.List.{drop-drop, drop-map, drop-set-add, drop-set-lt, length-drop, length-take, take-map, take-set-le}
use Rattle.tabled_base.specs.Stored.{in_rows}

pub in_rows-length : {T : Type 0} (n c : ℕ) (xs : List T) → length (in_rows n c xs) ≡ n
in_rows-length zero c xs = refl
in_rows-length (suc n) c xs = let rest = in_rows-length n c (drop c xs) in omega arith

-- row `i` begins after the cells of `i` rows
pub in_rows-row : {T : Type 0} (n c : ℕ) (xs : List T) (i : ℕ) (d : List T) → i < n → slice_index_or (in_rows n c xs) i d ≡ take c (drop (i * c) xs)
in_rows-row zero c xs i d h = absurd (let never : ⊥ = omega arith in never)
in_rows-row (suc n) c xs zero d h = ap (λ k. take c (drop k xs)) (sym (zero-mul c))
in_rows-row (suc n) c xs (suc i) d h =
    let more : c + i * c ≡ suc i * c = let e = suc-mul i c in omega arith in
    in_rows-row n c (drop c xs) i d (omega arith) ∙ ap (take c) (drop-drop (i * c) c xs ∙ ap (λ k. drop k xs) more)

pub in_rows-lengths : {T : Type 0} (n c : ℕ) (xs : List T) → length xs ≡ n * c → All (λ row. length row ≡ c) (in_rows n c xs)
in_rows-lengths zero c xs h k d l = absurd (let never : ⊥ = omega arith in never)
in_rows-lengths (suc n) c xs h zero d l = let cut = length-take c xs in let e = suc-mul n c in omega arith
in_rows-lengths (suc n) c xs h (suc k) d l =
    let left = length-drop c xs in let e = suc-mul n c in in_rows-lengths n c (drop c xs) (omega arith) k d (omega arith)

pub in_rows-columns : (n c : ℕ) (xs : List (List ℕ)) → length xs ≡ n * c → 0 < n → columns (in_rows n c xs) ≡ c
in_rows-columns zero c xs h l = absurd (let never : ⊥ = omega arith in never)
in_rows-columns (suc n) c xs h l = in_rows-lengths (suc n) c xs h 0 [] (omega arith)

pub in_rows-rectangular : (n c : ℕ) (xs : List (List ℕ)) → length xs ≡ n * c → IsRectangular (in_rows n c xs)
in_rows-rectangular zero c xs h k d l = absurd (let never : ⊥ = omega arith in never)
in_rows-rectangular (suc n) c xs h k d l =
    let each = in_rows-lengths (suc n) c xs h in each k d l ∙ sym (each 0 d (omega arith))

-- a row of the list lies within it
pub row_within : (n c i : ℕ) → i < n → i * c + c ≤ n * c
row_within n c i h = let e = suc-mul i c in let m = mul-le-mul_right c (let more : suc i ≤ n = omega arith in more) in omega arith

-- where a cell lies in the list
pub cell_within : (n c i j : ℕ) → i < n → j < c → i * c + j < n * c
cell_within n c i j h l = let w = row_within n c i h in omega arith

-- a cell of the list that is set
pub in_rows-set : {T : Type 0} (n c : ℕ) (xs : List T) (i j : ℕ) (x : T) (d : List T) → i < n → j < c
    → in_rows n c (set xs (i * c + j) x) ≡ set (in_rows n c xs) i (set (slice_index_or (in_rows n c xs) i d) j x)
in_rows-set zero c xs i j x d h l = absurd (let never : ⊥ = omega arith in never)
in_rows-set (suc n) c xs zero j x d h l =
    let at : 0 * c + j ≡ j = let e = zero-mul c in omega arith in
    ap (λ k. in_rows (suc n) c (set xs k x)) at
    ∙ ap (λ r. r ∷ in_rows n c (drop c (set xs j x))) (take-set-lt c xs j x l)
    ∙ ap (λ r. set (take c xs) j x ∷ in_rows n c r) (drop-set-lt c xs j x l)
in_rows-set (suc n) c xs (suc i) j x d h l =
    let at : suc i * c + j ≡ c + (i * c + j) = let e = suc-mul i c in omega arith in
    ap (λ k. in_rows (suc n) c (set xs k x)) at
    ∙ ap (λ r. r ∷ in_rows n c (drop c (set xs (c + (i * c + j)) x))) (take-set-le c xs (c + (i * c + j)) x (omega arith))
    ∙ ap (λ r. take c xs ∷ in_rows n c r) (drop-set-add c xs (i * c + j) x)
    ∙ ap (λ r. take c xs ∷ r) (in_rows-set n c (drop c xs) i j x d (omega arith) l)

-- the texts of a row
pub row_read : {T : Type 0} (f : T → List ℕ) (n c : ℕ) (cells : List T) (all : List (List (List ℕ))) (i : ℕ)
    → in_rows n c (map f cells) ≡ all → i < length all
    → map f (take c (drop (i * c) cells)) ≡ slice_index_or all i []
row_read f n c cells all i e h =
    let there : i < n = omega (arith, h, ap length e, in_rows-length n c (map f cells)) in
    sym (in_rows-row n c (map f cells) i [] there ∙ ap (take c) (drop-map f (i * c) cells) ∙ take-map f c (drop (i * c) cells))
    ∙ ap (λ l. slice_index_or l i []) e
