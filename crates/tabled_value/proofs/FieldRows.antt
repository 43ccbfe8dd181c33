-- Rows of name and text are put behind others.
use Rattle.tabled_value.proofs.Names.{All-cons, All-nil, FieldsAdded, IsRectangular, List, [], all_zipped_more, ap, into_iter_items}
use Rattle.tabled_value.proofs.Names.{into_iter_len, iter_rest, length, map, pairs, rectangular-from_length, refl, subst, sym, zip_first}
use Rattle.tabled_value.proofs.Names.{zip_second, ℕ, ◌++◌, ◌∙◌, ◌∷◌, ◌≡◌}
use Rattle.std.proofs.Common.{append-nil, Option, None, Bor, Iter, ◌⊎◌, inl, inr}
use Rattle.std.specs.declared.iter.Zip.{Zip}
use Rattle.std.specs.declared.vec.IntoIter.{IntoIter}
use Rattle.std.specs.List.{All, flat_map, zip}
use Rattle.std.specs.Vec.Iter.{into_iter_steps}
use Rattle.std.proofs.lemmas.Grind.{flat_map-append}
use Rattle.std.proofs.lemmas.Fn.{fronts}
use Rattle.std.proofs.lemmas.Iterator.{zips}
use Rattle.std.proofs.lemmas.List.{nil_from_length}
use Rattle.std.proofs.lemmas.List.Elements.{All-append}

-- the rows of the next value
pub fields_added : {V : Type 0} (shows : V → List (List ℕ) → Type 0) (names : List (List ℕ)) (values : List V)
    (old new : List (List (List ℕ))) (value : V) (row : List (List ℕ)) → FieldsAdded shows names values old
    → shows value row → new ≡ old ++ pairs names row → FieldsAdded shows names (values ++ value ∷ []) new
fields_added shows names values old new value row h r e = record {
  rows = h.rows ++ row ∷ [];
  each = all_zipped_more shows values h.rows value row h.each r;
  whole =
      e ∙ ap (λ u. u ++ pairs names row) h.whole
      ∙ sym (flat_map-append (pairs names) h.rows (row ∷ []) ∙ ap (λ u. flat_map (pairs names) h.rows ++ u) (append-nil (pairs names row)));
}

two_each : (fields : List (List ℕ × List ℕ)) → All (λ row. length row ≡ 2) (map (λ field. field.0 ∷ field.1 ∷ []) fields)
two_each [] = All-nil (λ row. length row ≡ 2)
two_each (field ∷ fields) = All-cons (λ row. length row ≡ 2) (field.0 ∷ field.1 ∷ []) (map (λ f. f.0 ∷ f.1 ∷ []) fields) refl (two_each fields)

two_of_all : (names : List (List ℕ)) (rows : List (List (List ℕ))) → All (λ row. length row ≡ 2) (flat_map (pairs names) rows)
two_of_all names [] = All-nil (λ row. length row ≡ 2)
two_of_all names (row ∷ rows) =
    All-append (λ r. length r ≡ 2) (pairs names row) (flat_map (pairs names) rows) (two_each (zip names row)) (two_of_all names rows)

pub rectangular_fields : {V : Type 0} (shows : V → List (List ℕ) → Type 0) (names : List (List ℕ)) (values : List V)
    (all : List (List (List ℕ))) → FieldsAdded shows names values all → IsRectangular all
rectangular_fields shows names values all h =
    subst IsRectangular (sym h.whole) (rectangular-from_length 2 (flat_map (pairs names) h.rows) (two_of_all names h.rows))

-- ---- a walk over names and texts side by side

-- the rows of what is to come
abbrev left : {A B Z : Type 0} → (A → List ℕ) → (B → List ℕ) → Zip (Iter A) (IntoIter B Z) → List (List (List ℕ))
left f h s = pairs (map f (iter_rest (zip_first s))) (map h (into_iter_items (zip_second s)))

no_texts : (names : List (List ℕ)) → pairs names [] ≡ []
no_texts [] = refl
no_texts (name ∷ names) = refl

pub no_pair : {A B Z : Type 0} (f : A → List ℕ) (h : B → List ℕ) (s t : Zip (Iter A) (IntoIter B Z))
    (r : Option (Bor A × B)) (rows whole : List (List (List ℕ))) → r ≡ None → zips fronts into_iter_steps s r t
    → (rows ++ left f h s ≡ whole) × (length (into_iter_items (zip_second s)) ≡ into_iter_len (zip_second s)) → rows ≡ whole
no_pair {A} {B} {Z} f h s t r rows whole e steps so_far =
    sym (append-nil rows) ∙ ap (λ u. rows ++ u) (sym (ended (subst (λ o. zips fronts into_iter_steps s o t) e steps))) ∙ so_far.0
  where
    ended : ((u : Iter A) × fronts (zip_first s) None u) ⊎ ((u : IntoIter B Z) × into_iter_steps (zip_second s) None u) → left f h s ≡ []
    ended (inl a) = ap (λ l. pairs (map f l) (map h (into_iter_items (zip_second s)))) (nil_from_length _ a.1.0)
    ended (inr b) = ap (λ l. pairs (map f (iter_rest (zip_first s))) (map h l)) (nil_from_length _ (so_far.1 ∙ b.1.0))
        ∙ no_texts (map f (iter_rest (zip_first s)))
