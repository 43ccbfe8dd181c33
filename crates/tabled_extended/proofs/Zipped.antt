-- The lines of fields and values side by side.
use Rattle.tabled_extended.proofs.Names.{List, [], ap, append_assoc, arith, drop, get_or, length, map, map-append, min, sym, take, zip, ℕ}
use Rattle.tabled_extended.proofs.Names.{◌++◌, ◌+◌, ◌<◌, ◌∙◌, ◌∷◌, ◌≡◌, ◌≤◌}
use Rattle.std.proofs.lemmas.List.{take_all, take_more, take-append-drop}
use Rattle.std.proofs.lemmas.Slice.Zip.{length-zip, get_or-zip}

pub zip-next : (f : List ℕ × List ℕ → List ℕ) (ks vs : List (List ℕ)) {i : ℕ} {k v : List ℕ} → k ≡ get_or ks i k → v ≡ get_or vs i v
    → i < length ks → i < length vs
    → map f (take (i + 1) (zip ks vs)) ≡ map f (take i (zip ks vs)) ++ (f (k, v) ∷ [])
zip-next f ks vs {i} {k} {v} e g h j =
    let within : i < length (zip ks vs) = omega (arith, length-zip ks vs) in
    let pair : get_or (zip ks vs) i (k, v) ≡ (k, v) = get_or-zip ks vs i (k, v) h j ∙ ap (λ x. (x, get_or vs i v)) (sym e) ∙ ap (λ x. (k, x)) (sym g) in
    ap (map f) (take_more (zip ks vs) i (k, v) within)
    ∙ map-append f (take i (zip ks vs)) (get_or (zip ks vs) i (k, v) ∷ [])
    ∙ ap (λ (p : List ℕ × List ℕ). map f (take i (zip ks vs)) ++ (f p ∷ [])) pair

pub zip-rest : (f : List ℕ × List ℕ → List ℕ) (ks vs : List (List ℕ)) {i : ℕ} {k v : List ℕ} → k ≡ get_or ks i k → v ≡ get_or vs i v
    → i < length ks → i < length vs
    → map f (zip ks vs) ≡ map f (take i (zip ks vs)) ++ ((f (k, v) ∷ []) ++ map f (drop (i + 1) (zip ks vs)))
zip-rest f ks vs {i} {k} {v} e g h j =
    ap (map f) (sym (take-append-drop (i + 1) (zip ks vs)))
    ∙ map-append f (take (i + 1) (zip ks vs)) (drop (i + 1) (zip ks vs))
    ∙ ap (λ l. l ++ map f (drop (i + 1) (zip ks vs))) (zip-next f ks vs e g h j)
    ∙ append_assoc (map f (take i (zip ks vs))) (f (k, v) ∷ []) (map f (drop (i + 1) (zip ks vs)))

pub zip-all : (ks vs : List (List ℕ)) (n : ℕ) → min (length ks) (length vs) ≤ n → take n (zip ks vs) ≡ zip ks vs
zip-all ks vs n h = take_all n (zip ks vs) (omega (arith, length-zip ks vs))
