-- The lines of a block, one after another.
use Rattle.tabled_pool.proofs.Names.{List, [], add-one, ap, append_assoc, drop, drop-cons, each-more, flat_map, length, map, map-append}
use Rattle.tabled_pool.proofs.Names.{range_with_len, refl, sym, take, ℕ, ◌++◌, ◌+◌, ◌<◌, ◌∙◌, ◌∷◌, ◌≡◌}
use Rattle.std.proofs.Common.{slice_index_or}
use Rattle.std.proofs.lemmas.List.{take_more, take-append-drop}
use Rattle.tabled_line.proofs.Each.{map-more}

-- one more line, and the lines behind it
pub texts-more : (f : List ℕ → List ℕ) (ls : List (List ℕ)) (i : ℕ) (line : List ℕ) → i < length ls → line ≡ slice_index_or ls i []
    → map f (take (i + 1) ls) ≡ map f (take i ls) ++ (f line ∷ [])
texts-more f ls i line h e =
    ap (map f) (take_more ls i [] h ∙ ap (λ (u : List ℕ). take i ls ++ u ∷ []) (sym e)) ∙ map-append f (take i ls) (line ∷ [])

drop-first : (ls : List (List ℕ)) (i : ℕ) → i < length ls → drop i ls ≡ slice_index_or ls i [] ∷ drop (i + 1) ls
drop-first ls i h = rw (add-one, drop-cons ls i []) refl

pub texts-rest : (f : List ℕ → List ℕ) (ls : List (List ℕ)) (i : ℕ) (line : List ℕ) → i < length ls → line ≡ slice_index_or ls i []
    → map f ls ≡ map f (take i ls) ++ ((f line ∷ []) ++ map f (drop (i + 1) ls))
texts-rest f ls i line h e =
    ap (map f) (sym (take-append-drop i ls) ∙ ap (λ u. take i ls ++ u)
    (drop-first ls i h ∙ ap (λ (u : List ℕ). u ∷ drop (i + 1) ls) (sym e)))
    ∙ map-append f (take i ls) (line ∷ drop (i + 1) ls)

-- one more of the values that a list is made of, index by index, behind others
pub one-more : {A B : Type 0} (g : A → B) (f : ℕ → B) (old : List B) (xs xs' : List A) (x : A) (n : ℕ) → xs' ≡ xs ++ (x ∷ [])
    → map g xs ≡ old ++ map f (range_with_len 0 n) → g x ≡ f n → map g xs' ≡ old ++ map f (range_with_len 0 (n + 1))
one-more g f old xs xs' x n e i h =
    ap (map g) e ∙ map-append g xs (x ∷ []) ∙ ap (λ u. u ++ (g x ∷ [])) i
    ∙ append_assoc old (map f (range_with_len 0 n)) (g x ∷ [])
    ∙ ap (λ u. old ++ u) (ap (λ b. map f (range_with_len 0 n) ++ (b ∷ [])) h ∙ sym (map-more f n))

-- one more of the pieces of a text, behind others
pub run-more : (f : ℕ → List ℕ) (old s s' t : List ℕ) (n : ℕ) → s' ≡ s ++ t → s ≡ old ++ flat_map f (range_with_len 0 n) → t ≡ f n
    → s' ≡ old ++ flat_map f (range_with_len 0 (n + 1))
run-more f old s s' t n e i h =
    e ∙ ap (λ u. u ++ t) i ∙ append_assoc old (flat_map f (range_with_len 0 n)) t
    ∙ ap (λ u. old ++ u) (ap (λ u. flat_map f (range_with_len 0 n) ++ u) h ∙ sym (each-more f n))
