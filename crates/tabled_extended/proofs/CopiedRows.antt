-- Rows that are copied.
use Rattle.tabled_extended.proofs.Names.{Global, List, Vec, [], ap, map, map-append, row_texts, sym, take, ℕ, ◌++◌, ◌+◌, ◌<◌, ◌∙◌, ◌∷◌, ◌≡◌, length, length-map}
use Rattle.std.proofs.Common.{slice_index_or}
use Rattle.std.proofs.lemmas.List.{get_or-map, take_more}

-- one more row is copied
pub copied-more : (copy rows : List (Vec (List ℕ) Global)) (i : ℕ) (row new : Vec (List ℕ) Global) → i < length rows
    → row ≡ slice_index_or rows i row → row_texts copy ≡ take i (row_texts rows) → new.items ≡ row.items
    → row_texts (copy ++ new ∷ []) ≡ take (i + 1) (row_texts rows)
copied-more copy rows i row new h is so_far same =
    let texts : Vec (List ℕ) Global → List (List ℕ) = λ v. map (λ t. t) v.items in
    map-append texts copy (new ∷ [])
    ∙ ap (λ l. l ++ texts new ∷ []) so_far
    ∙ ap (λ l. take i (row_texts rows) ++ l ∷ []) (ap (map (λ t. t)) same ∙ ap texts is ∙ sym (get_or-map texts rows i row [] h))
    ∙ sym (take_more (row_texts rows) i [] (rw length-map h))
