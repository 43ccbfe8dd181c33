-- Lengthened rows.
use Rattle.tabled_base.proofs.Names.{All, All-cons, All-head, All-map, All-nil, All-tail, IsRectangular, List, [], ap, append-nil, arith}
use Rattle.tabled_base.proofs.Names.{columns, get_or, length, length-append, lengthened, map, max, refl, replicate, set, subst, suc, sym}
use Rattle.tabled_base.proofs.Names.{with_record, zero, ℕ, ◌++◌, ◌+◌, ◌-◌, ◌<◌, ◌∙◌, ◌∷◌, ◌≡◌, ◌≤◌}
use Rattle.std.proofs.Common.{Result, Ok, Err, OnOk, OnErr}
use Rattle.std.proofs.lemmas.List.{length-replicate}
use Rattle.std.proofs.lemmas.List.Elements.{All-append}

pub length-lengthened : (n : ℕ) (row : List (List ℕ)) → length (lengthened n row) ≡ max n (length row)
length-lengthened n row = omega (arith, length-append row (replicate (n - length row) []), length-replicate {A = List ℕ} (n - length row) [])

-- a row that is long enough stays
pub lengthened-long : (n : ℕ) (row : List (List ℕ)) → n ≤ length row → lengthened n row ≡ row
lengthened-long n row h =
    let none : n - length row ≡ 0 = omega arith in
    ap (λ k. row ++ replicate k []) none ∙ append-nil row

-- rows of one length are rectangular
pub rectangular-from_length : (n : ℕ) (cells : List (List (List ℕ))) → All (λ row. length row ≡ n) cells → IsRectangular cells
rectangular-from_length n [] h = All-nil (λ row. length row ≡ 0)
rectangular-from_length n (row ∷ rows) h = λ k d l. h k d l ∙ sym (All-head (λ r. length r ≡ n) row rows h)

pub with_record-rectangular : (cells : List (List (List ℕ))) (row : List (List ℕ)) → IsRectangular cells → IsRectangular (with_record cells row)
with_record-rectangular cells row q =
    let n = max (columns cells) (length row) in
    rectangular-from_length n (with_record cells row)
    (All-map (λ r. length r ≡ n) (lengthened n) (cells ++ row ∷ [])
    (All-append (λ r. length (lengthened n r) ≡ n) cells (row ∷ [])
    (λ k d l. let own = q k d l in omega (arith, length-lengthened n (get_or cells k d)))
    (All-cons (λ r. length (lengthened n r) ≡ n) row [] (omega (arith, length-lengthened n row)) (All-nil (λ r. length (lengthened n r) ≡ n)))))

-- rows that are long enough stay
lengthened-all : (n : ℕ) (cells : List (List (List ℕ))) → All (λ row. n ≤ length row) cells → map (lengthened n) cells ≡ cells
lengthened-all n [] h = refl
lengthened-all n (row ∷ rows) h =
    ap (λ r. r ∷ map (lengthened n) rows) (lengthened-long n row (All-head (λ r. n ≤ length r) row rows h))
    ∙ ap (λ rs. row ∷ rs) (lengthened-all n rows (All-tail (λ r. n ≤ length r) row rows h))

-- equally long rows that are long enough stay
pub lengthened-rectangular : (n : ℕ) (cells : List (List (List ℕ))) → IsRectangular cells → n ≤ columns cells
    → map (lengthened n) cells ≡ cells
lengthened-rectangular n cells q h = lengthened-all n cells (λ k d l. let own = q k d l in omega arith)

-- f of the items up to i, and the items from there on
abbrev pub mapped : {X : Type 0} → (X → X) → ℕ → List X → List X
mapped f zero xs = xs
mapped f (suc i) [] = []
mapped f (suc i) (x ∷ xs) = f x ∷ mapped f i xs

mapped-suc : {X : Type 0} (f : X → X) (i : ℕ) (xs : List X) (d : X) → i < length xs
    → set (mapped f i xs) i (f (get_or (mapped f i xs) i d)) ≡ mapped f (suc i) xs
mapped-suc f i [] d h = absurd (omega arith)
mapped-suc f zero (x ∷ xs) d h = refl
mapped-suc f (suc i) (x ∷ xs) d h = ap (λ l. f x ∷ l) (mapped-suc f i xs d (omega arith))

pub mapped-more : {X : Type 0} (f : X → X) (i : ℕ) (xs : List X) (d : X) → i < length xs
    → set (mapped f i xs) i (f (get_or (mapped f i xs) i d)) ≡ mapped f (i + 1) xs
mapped-more f i xs d h =
    let next : suc i ≡ i + 1 = omega arith in
    mapped-suc f i xs d h ∙ ap (λ k. mapped f k xs) next

pub mapped-all : {X : Type 0} (f : X → X) (xs : List X) → mapped f (length xs) xs ≡ map f xs
mapped-all f [] = refl
mapped-all f (x ∷ xs) = ap (λ l. f x ∷ l) (mapped-all f xs)

-- so they are after a row was added or refused
pub rectangular-after : {T E : Type 0} (r : Result T E) (old new : List (List (List ℕ))) (row : List (List ℕ))
    → IsRectangular old → OnOk r (new ≡ with_record old row) → OnErr r (new ≡ old) → IsRectangular new
rectangular-after (Ok x) old new row q ok err = subst IsRectangular (sym ok) (with_record-rectangular old row q)
rectangular-after (Err e) old new row q ok err = subst IsRectangular (sym err) q

-- what holds is so of a refusal
pub on-err : {T E P : Type 0} (r : Result T E) → P → OnErr r P
on-err (Ok x) holds = tt
on-err (Err e) holds = holds
