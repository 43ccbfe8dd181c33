use Rattle.tabled_pool.proofs.Names.{List, [], ap, append_assoc, framed, ◌++◌, ◌∙◌, ◌∷◌, ◌≡◌}
use Rattle.tabled_pool.proofs.places.place_tree.Goals as goal

joined : {A : Type 0} (o a b c d n ps : List A) (p q r s : A) → a ≡ o ++ (p ∷ []) → b ≡ a ++ (q ∷ []) → c
    ≡ b ++ (r ∷ []) → d ≡ c ++ (s ∷ []) → n ≡ d ++ ps → n ≡ o ++ (p ∷ (q ∷ (r ∷ (s ∷ ps))))
joined o a b c d n ps p q r s h1 h2 h3 h4 h5 =
    h5 ∙ ap (λ u. u ++ ps) (h4 ∙ ap (λ u. u ++ (s ∷ [])) (h3 ∙ ap (λ u. u ++ (r ∷ [])) (h2 ∙ ap (λ u. u ++ (q ∷ [])) h1)))
    ∙ simp append_assoc

pub returns : goal.returns
unfolding framed
returns c =
    let parts = joined _ _ _ _ _ _ _ _ _ _ _ c.in_ok-place_border.ensures c.in_ok-place_border-2.ensures
    c.in_ok-place_border-3.ensures c.in_ok-place_border-4.ensures c.in_ok-place_value.ensures.pieces in
    let ends = rw (c.first_part-left.ensures, c.rest_part-right.ensures, c.first_part-top.ensures, c.rest_part-bottom.ensures) at parts in
    rw (c.first_part-place.ensures, c.rest_part-below.ensures, c.first_part-middle.ensures, c.rest_part-rest.ensures) at ends
