-- Rows that are set alike.
use Rattle.tabled_grid.proofs.Names.{ap, map, range_with_len, refl, suc, zero, ℕ, ◌+◌, ◌∙◌, ◌∷◌, ◌≡◌}

pub alike-maps : {X : Type 0} (f g : ℕ → X) (a n : ℕ) → ((column : ℕ) → f column ≡ g column)
    → map f (range_with_len a n) ≡ map g (range_with_len a n)
alike-maps f g a zero h = refl
alike-maps f g a (suc n) h =
    ap (λ x. x ∷ map f (range_with_len (a + 1) n)) (h a) ∙ ap (λ xs. g a ∷ xs) (alike-maps f g (a + 1) n h)
