-- Rows that are copied or compared.
use Rattle.tabled_base.proofs.Names.{Global, List, Vec, [], ap, append_assoc, map, map-append, map-id, nat_eq, pointwise}
use Rattle.tabled_base.proofs.Names.{refl, row_texts, sym, ℕ, ◌++◌, ◌∙◌, ◌∷◌, ◌≡◌}
use Rattle.std.proofs.Common.{Bool, ◌&&◌}

-- one more row is copied
pub copied-next : (copy : List (Vec (List ℕ) Global)) (new : Vec (List ℕ) Global) (row : List (List ℕ)) (left rest all : List (List (List ℕ)))
    → row_texts copy ++ left ≡ all → left ≡ map (λ t. t) row ∷ rest → new.items ≡ row → row_texts (copy ++ new ∷ []) ++ rest ≡ all
copied-next copy new row left rest all so_far step same =
    let texts : Vec (List ℕ) Global → List (List ℕ) = λ v. map (λ t. t) v.items in
    ap (λ l. l ++ rest) (map-append texts copy (new ∷ []))
    ∙ append_assoc (row_texts copy) (texts new ∷ []) rest
    ∙ ap (λ l. row_texts copy ++ l) (ap (λ r. map (λ t. t) r ∷ rest) same ∙ sym step)
    ∙ so_far

-- the texts are the items
items-texts : (rows : List (Vec (List ℕ) Global)) → map (λ row. row.items) rows ≡ row_texts rows
items-texts [] = refl
items-texts (row ∷ rows) = ap (λ r. r ∷ map (λ row. row.items) rows) (sym (map-id row.items)) ∙ ap
    (λ rs. map (λ t. t) row.items ∷ rs) (items-texts rows)

pointwise-map : {A B : Type 0} (E : B → B → Bool) (f : A → B) (xs ys : List A) → pointwise
    (λ x y. E (f x) (f y)) xs ys ≡ pointwise E (map f xs) (map f ys)
pointwise-map E f [] [] = refl
pointwise-map E f [] (y ∷ ys) = refl
pointwise-map E f (x ∷ xs) [] = refl
pointwise-map E f (x ∷ xs) (y ∷ ys) = ap (λ b. E (f x) (f y) && b) (pointwise-map E f xs ys)

-- vectors of vectors compare as their texts
pub compared-rows : (xs ys : List (Vec (List ℕ) Global)) → pointwise
    (λ x y. pointwise (pointwise nat_eq) x.items y.items) xs ys ≡ pointwise (pointwise (pointwise nat_eq)) (row_texts xs) (row_texts ys)
compared-rows xs ys =
    pointwise-map (pointwise (pointwise nat_eq)) (λ row. row.items) xs ys
    ∙ ap (λ l. pointwise (pointwise (pointwise nat_eq)) l (map (λ row. row.items) ys)) (items-texts xs)
    ∙ ap (pointwise (pointwise (pointwise nat_eq)) (row_texts xs)) (items-texts ys)
