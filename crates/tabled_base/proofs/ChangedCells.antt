-- One cell is changed.
use Rattle.tabled_base.proofs.Names.{All, All-set, Global, IsRectangular, List, Vec, [], ap, columns, length, length-map, map, map-set}
use Rattle.tabled_base.proofs.Names.{refl, row_texts, slice_index_or, subst, suc, sym, texts_of, with_cell, zero, ℕ, ◌<◌, ◌∙◌, ◌∷◌, ◌≡◌}
use Rattle.std.proofs.Common.{slice_set, length-set}
use Rattle.std.specs.Vec.{with_item}
use Rattle.tabled_base.specs.Cells.{IsInside}
use Rattle.tabled_base.proofs.RowLemmas.{row_inside, row_of}

pub with_cell-columns : (cells : List (List (List ℕ))) (i j : ℕ) (text : List ℕ) → columns (with_cell cells i j text) ≡ columns cells
with_cell-columns [] i j text = refl
with_cell-columns (row ∷ rows) zero j text = length-set row j text
with_cell-columns (row ∷ rows) (suc i) j text = refl

-- the rows stay equally long
pub with_cell-rectangular : (cells : List (List (List ℕ))) (i j : ℕ) (text : List ℕ) → i < length cells
    → IsRectangular cells → IsRectangular (with_cell cells i j text)
with_cell-rectangular cells i j text h q =
    let row = slice_set (slice_index_or cells i []) j text in
    let long : length row ≡ columns cells = length-set (slice_index_or cells i []) j text ∙ q i [] h in
    subst (λ n. All (λ r. length r ≡ n) (with_cell cells i j text)) (sym (with_cell-columns cells i j text))
    (All-set (λ r. length r ≡ columns cells) cells i row long q)

-- the texts after an item of one row was set
pub texts_after : {T : Type 0} (f : T → List ℕ) (rows : List (Vec T Global)) (i j : ℕ) (row : Vec T Global) (x : T)
    → i < length rows → row ≡ slice_index_or rows i row → texts_of f (slice_set rows i (with_item row j x)) ≡ with_cell (texts_of f rows) i j (f x)
texts_after f rows i j row x h e =
    let g : Vec _ Global → List (List ℕ) = λ v. map f v.items in
    map-set g rows i (with_item row j x)
    ∙ ap (slice_set (texts_of f rows) i)
    (map-set f row.items j x ∙ ap (λ l. slice_set l j (f x)) (ap g e ∙ sym (row_of f rows i row h)))

-- the cells after one of them was set
pub cells_after : (rows : List (Vec (List ℕ) Global)) (cells : List (List (List ℕ))) (i j : ℕ) (row : Vec (List ℕ) Global) (x : List ℕ)
    → row_texts rows ≡ cells → IsRectangular (row_texts rows) → IsInside cells i j → row ≡ slice_index_or rows i row
    → IsRectangular (row_texts (slice_set rows i (with_item row j x))) × (row_texts (slice_set rows i (with_item row j x)) ≡ with_cell cells i j x)
cells_after rows cells i j row x e q h r =
    let there = row_inside (λ t. t) rows cells i j e h in
    let after = texts_after (λ t. t) rows i j row x there r in
    let within : i < length (row_texts rows) = rw length-map there in
    (subst IsRectangular (sym after) (with_cell-rectangular (row_texts rows) i j x within q), after ∙ ap (λ c. with_cell c i j x) e)
