-- The greatest of some numbers, with one more.
use Rattle.std.proofs.Common.{◌≡◌, ℕ, List, [], ◌∷◌, ◌++◌, map, max, ap, arith, ◌∙◌}
use Rattle.std.proofs.lemmas.List.{map-append}
use Rattle.tabled_text.specs.Measure.{greatest}

greatest-push : (xs : List ℕ) (y : ℕ) → greatest (xs ++ y ∷ []) ≡ max (greatest xs) y
greatest-push [] y = omega arith
greatest-push (x ∷ xs) y = let e = greatest-push xs y in omega arith

pub greatest-map-push : {A : Type 0} (f : A → ℕ) (xs : List A) (y : A) → greatest (map f (xs ++ y ∷ [])) ≡ max (greatest (map f xs)) (f y)
greatest-map-push f xs y = ap greatest (map-append f xs (y ∷ [])) ∙ greatest-push (map f xs) (f y)
