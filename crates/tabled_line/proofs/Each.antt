-- Lists that are made index by index, up to an index and from there on.
use Rattle.tabled_line.proofs.Names.{List, [], ap, append-nil, arith, flat_map, map, range_with_len, refl, replicate, suc, sym, zero}
use Rattle.tabled_line.proofs.Names.{zero-add, ℕ, ◌++◌, ◌+◌, ◌-◌, ◌<◌, ◌∙◌, ◌∷◌, ◌≡◌, ◌≤◌}
use Rattle.std.proofs.lemmas.List.Concat.{flat_map-append}

range-append : (a m k : ℕ) → range_with_len a (m + k) ≡ range_with_len a m ++ range_with_len (a + m) k
range-append a zero k = let e : zero + k ≡ k = omega arith in let f : a + zero ≡ a = omega arith in rw (e, f) refl
range-append a (suc m) k =
    let e : suc m + k ≡ suc (m + k) = omega arith in
    let f : a + suc m ≡ a + 1 + m = omega arith in
    rw (e, f) (ap (λ u. a ∷ u) (range-append (a + 1) m k))

-- the first n indices: those below i, then i, then the rest
range-at : (i n : ℕ) → i < n → range_with_len 0 n ≡ range_with_len 0 i ++ (i ∷ range_with_len (i + 1) (n - i - 1))
range-at i n h =
    let e : i + suc (n - i - 1) ≡ n = omega arith in
    ap (range_with_len 0) (sym e) ∙ range-append 0 i (suc (n - i - 1))
    ∙ ap (λ u. range_with_len 0 i ++ (u ∷ range_with_len (u + 1) (n - i - 1))) (zero-add i)

pub range-more : (n : ℕ) → range_with_len 0 (n + 1) ≡ range_with_len 0 n ++ (n ∷ [])
range-more n = range-append 0 n 1 ∙ ap (λ u. range_with_len 0 n ++ (u ∷ [])) (zero-add n)

pub each-more : {A : Type 0} (f : ℕ → List A) (n : ℕ) → flat_map f (range_with_len 0 (n + 1)) ≡ flat_map f (range_with_len 0 n) ++ f n
each-more f n =
    ap (flat_map f) (range-more n) ∙ flat_map-append f (range_with_len 0 n) (n ∷ [])
    ∙ ap (λ u. flat_map f (range_with_len 0 n) ++ u) (append-nil (f n))

pub each-rest : {A : Type 0} (f : ℕ → List A) (i n : ℕ) → i < n → flat_map f (range_with_len 0 n) ≡ flat_map f (range_with_len 0 i) ++ (f i ++ flat_map f (range_with_len (i + 1) (n - i - 1)))
each-rest f i n h = ap (flat_map f) (range-at i n h) ∙ flat_map-append f (range_with_len 0 i) (i ∷ range_with_len (i + 1) (n - i - 1))

none-from : {A : Type 0} (f : ℕ → List A) (a n : ℕ) → ((k : ℕ) → a ≤ k → k < a + n → f k ≡ []) → flat_map f (range_with_len a n) ≡ []
none-from f a zero h = refl
none-from f a (suc n) h =
    ap (λ u. u ++ flat_map f (range_with_len (a + 1) n)) (h a (omega arith) (omega arith))
    ∙ none-from f (a + 1) n (λ k l m. h k (omega arith) (omega arith))

-- the first i of n indices, where nothing stands at the others
pub each-first : {A : Type 0} (f : ℕ → List A) (i n : ℕ) → i ≤ n → ((k : ℕ) → i ≤ k → k < n → f k ≡ [])
    → flat_map f (range_with_len 0 n) ≡ flat_map f (range_with_len 0 i)
each-first f i n h none =
    let e : n ≡ i + (n - i) = omega arith in
    ap (λ m. flat_map f (range_with_len 0 m)) e ∙ ap (flat_map f) (range-append 0 i (n - i))
    ∙ flat_map-append f (range_with_len 0 i) (range_with_len (0 + i) (n - i))
    ∙ ap (λ u. flat_map f (range_with_len 0 i) ++ u) (none-from f (0 + i) (n - i) (λ k l m. none k (omega arith) (omega arith)))
    ∙ append-nil (flat_map f (range_with_len 0 i))

map-append : {A B : Type 0} (f : A → B) (xs ys : List A) → map f (xs ++ ys) ≡ map f xs ++ map f ys
map-append f [] ys = refl
map-append f (x ∷ xs) ys = ap (λ u. f x ∷ u) (map-append f xs ys)

pub map-more : {A : Type 0} (f : ℕ → A) (n : ℕ) → map f (range_with_len 0 (n + 1)) ≡ map f (range_with_len 0 n) ++ (f n ∷ [])
map-more f n = ap (map f) (range-more n) ∙ map-append f (range_with_len 0 n) (n ∷ [])

pub map-rest : {A : Type 0} (f : ℕ → A) (i n : ℕ) → i < n → map f (range_with_len 0 n) ≡ map f (range_with_len 0 i) ++ ((f i ∷ []) ++ map f (range_with_len (i + 1) (n - i - 1)))
map-rest f i n h = ap (map f) (range-at i n h) ∙ map-append f (range_with_len 0 i) (i ∷ range_with_len (i + 1) (n - i - 1))

pub copies-append : {A : Type 0} (x : A) (m n : ℕ) → replicate (m + n) x ≡ replicate m x ++ replicate n x
copies-append x zero n = let e : zero + n ≡ n = omega arith in rw e refl
copies-append x (suc m) n = let e : suc m + n ≡ suc (m + n) = omega arith in rw e (ap (λ u. x ∷ u) (copies-append x m n))

pub copies-rest : {A : Type 0} (x : A) (i n : ℕ) → i < n → replicate n x ≡ replicate i x ++ ((x ∷ []) ++ replicate (n - i - 1) x)
copies-rest x i n h = let e : i + suc (n - i - 1) ≡ n = omega arith in ap (λ k. replicate k x) (sym e) ∙ copies-append x i (suc (n - i - 1))
