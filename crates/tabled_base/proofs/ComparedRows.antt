-- Lists that are compared item by item.
use Rattle.tabled_base.proofs.Names.{List, [], ap, drop, length, pointwise, refl, slice_index_or, suc, ℕ, ◌+◌, ◌<◌, ◌∙◌, ◌∷◌, ◌≡◌, ◌≤◌}
use Rattle.std.proofs.Common.{Bool, false, true, ◌&&◌}
use Rattle.std.proofs.lemmas.List.{at_drop_all, at_drop_more}

-- the next items decide, or what is left
pub pointwise-next : {A : Type 0} (E : A → A → Bool) (xs ys : List A) (i : ℕ) (d : A) → i < length xs → i < length ys
    → pointwise E (drop i xs) (drop i ys) ≡ (E (slice_index_or xs i d) (slice_index_or ys i d) && pointwise E (drop (i + 1) xs) (drop (i + 1) ys))
pointwise-next E xs ys i d h k =
    at_drop_more (λ l. pointwise E l (drop i ys)) xs i d h
    ∙ at_drop_more (λ l. pointwise E (slice_index_or xs i d ∷ drop (i + 1) xs) l) ys i d k

-- nothing is left to compare
pub pointwise-done : {A : Type 0} (E : A → A → Bool) (xs ys : List A) (i : ℕ) → length xs ≤ i → length ys ≤ i
    → pointwise E (drop i xs) (drop i ys) ≡ true
pointwise-done E xs ys i h k = at_drop_all (λ l. pointwise E l (drop i ys)) xs i h ∙ at_drop_all (λ l. pointwise E [] l) ys i k

never : (b : Bool) → (b && false) ≡ false
never true = refl
never false = refl

-- lists of other lengths differ
pub pointwise-other : {A : Type 0} (E : A → A → Bool) (xs ys : List A) → (length xs ≡ length ys → ⊥) → pointwise E xs ys ≡ false
pointwise-other E [] [] h = absurd (h refl)
pointwise-other E [] (y ∷ ys) h = refl
pointwise-other E (x ∷ xs) [] h = refl
pointwise-other E (x ∷ xs) (y ∷ ys) h = ap (λ b. E x y && b) (pointwise-other E xs ys (λ e. h (ap suc e))) ∙ never (E x y)
