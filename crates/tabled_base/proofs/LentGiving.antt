-- What lent rows and cells give.
use Rattle.tabled_base.proofs.Names.{AllZip, Given, Global, List, Vec, YieldsList, [], ap, map, refl, subst, sym, texts_of, ℕ, ◌∙◌, ◌∷◌}
use Rattle.tabled_base.proofs.Names.{◌≡◌}
use Rattle.std.proofs.Common.{Bor, Iter}
use Rattle.std.specs.Slice.Iter.{iter_rest, iter_steps}
use Rattle.std.proofs.lemmas.Iterator.Consumers.{YieldsList-from_shown}
use Rattle.std.proofs.lemmas.Simd.{map-map}
use Rattle.tabled_base.specs.RowsGiven.{RowsGiven}
use Rattle.tabled_base.proofs.Giving.{given_items}

-- an iterator of a slice lends its items
pub given_lent : {U X : Type 0} {becomes : U → Iter X → Type 0} {source : U} {items : List (Bor X)} (all : List X)
    → Given becomes iter_steps source items → ((it : Iter X) → becomes source it → iter_rest it ≡ all) → map (λ x. x.now) items ≡ all
given_lent all given made =
    given_items given
    (λ it b. subst (λ xs. YieldsList iter_steps (λ x. x.now) it xs) (made it b)
    (YieldsList-from_shown iter_steps (λ x. x.now) iter_rest (λ s t h. h.0) (λ s x t h. h) it))

-- the cells that rows of vectors lend
lent_cells : {T : Type 0} {becomes : Bor (Vec T Global) → Iter T → Type 0} (f : T → List ℕ)
    (lists : List (Bor (Vec T Global))) (cells : List (List (Bor T)))
    → ((row : Bor (Vec T Global)) (it : Iter T) → becomes row it → iter_rest it ≡ row.now.items)
    → AllZip (Given becomes iter_steps) lists cells → map (map (λ cell. f cell.now)) cells ≡ texts_of f (map (λ row. row.now) lists)
lent_cells f [] [] made h = refl
lent_cells f [] (row ∷ rows) made h = absurd h
lent_cells f (list ∷ lists) [] made h = absurd h
lent_cells f (list ∷ lists) (row ∷ rows) made h =
    let first = sym (map-map f (λ x. x.now) row) ∙ ap (map f) (given_lent list.now.items h.0 (made list)) in
    ap (λ l. l ∷ map (map (λ cell. f cell.now)) rows) first ∙ ap (λ l. map f list.now.items ∷ l) (lent_cells f lists rows made h.1)

-- lent rows of vectors give the texts in them
pub lent_rows_give : {V T : Type 0} {rows_become : V → Iter (Vec T Global) → Type 0}
    {cells_become : Bor (Vec T Global) → Iter T → Type 0} {source : V} {cells : List (List (Bor T))} (f : T → List ℕ)
    (rows : List (Vec T Global)) → RowsGiven rows_become iter_steps cells_become iter_steps source cells
    → ((it : Iter (Vec T Global)) → rows_become source it → iter_rest it ≡ rows)
    → ((row : Bor (Vec T Global)) (it : Iter T) → cells_become row it → iter_rest it ≡ row.now.items)
    → map (map (λ cell. f cell.now)) cells ≡ texts_of f rows
lent_rows_give {cells = cells} f rows given made made_row =
    lent_cells f given.lists cells made_row given.each ∙ ap (texts_of f) (given_lent rows given.all made)
