-- Texts put behind others.
use Rattle.tabled_value.proofs.Names.{AllZip, Joined, List, Result, [], all_zipped_more, ap, length, map, map-append, subst, sym, take, ℕ}
use Rattle.tabled_value.proofs.Names.{◌++◌, ◌+◌, ◌∙◌, ◌∷◌, ◌≡◌}
use native.Mathlib.Numerals.{unary_clauses}
use Rattle.std.proofs.Common.{◌<◌, IfOk}
use Rattle.std.proofs.Math.ListN.{get_or}
use Rattle.std.proofs.Math.Seq.{take-suc}
use Rattle.std.proofs.lemmas.Result.{IfOk-weaker}

pub joined_of : {P Q : List (List ℕ) → Type 0} {row : List (List ℕ)} (front behind : List (List ℕ)) → row
    ≡ front ++ behind → P front → Q behind → Joined P Q row
joined_of front behind e p q = record { front = front; behind = behind; whole = e; of_front = p; of_behind = q }

-- fields behind fields
pub joined_fields : {V E : Type 0} (P Q : List (List ℕ) → Type 0) (front behind : List (List ℕ))
    (texts : V → List (List ℕ)) (r : Result V E) → IfOk r (λ v. texts v ≡ front ++ behind) → P front → Q behind → IfOk r (λ v. Joined P Q (texts v))
joined_fields P Q front behind texts r h p q =
    IfOk-weaker r (λ v. texts v ≡ front ++ behind) (λ v. Joined P Q (texts v)) (λ v e. joined_of front behind e p q) h

-- the text of the next item, behind those of the items before
pub next_item : {T C : Type 0} (R : T → List ℕ → Type 0) (text : C → List ℕ) (items : List T) (i : ℕ) (d : T)
    (texts new : List C) (next : C) → i < length items → new ≡ texts ++ next ∷ []
    → AllZip R (take i items) (map text texts) → R (get_or items i d) (text next) → AllZip R (take (i + 1) items) (map text new)
next_item R text items i d texts new next within e h r =
    let more : take (i + 1) items ≡ take i items ++ get_or items i d ∷ [] = simp unary_clauses (take-suc items i d within) in
    subst (λ l. AllZip R l (map text new)) (sym more)
    (subst (AllZip R (take i items ++ get_or items i d ∷ [])) (sym (ap (map text) e ∙ map-append text texts (next ∷ [])))
    (all_zipped_more R (take i items) (map text texts) (get_or items i d) (text next) h r))
