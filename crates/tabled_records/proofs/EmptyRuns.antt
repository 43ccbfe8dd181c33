-- What empty rows give.
use Rattle.tabled_records.proofs.Names.{AllZip, Given, List, Option, RowsGiven, [], ap, cell_at, length, map, refl, replicate, subst, suc}
use Rattle.tabled_records.proofs.Names.{sym, zero, ℕ, ◌∙◌, ◌∷◌, ◌≡◌}
use Rattle.std.proofs.Common.{slice_index_or, Bor}
use Rattle.std.specs.Iterator.{YieldsFirst, YieldsFirstBy}
use Rattle.std.proofs.lemmas.Iterator.{YieldsList, items_from_drains}
use Rattle.std.proofs.lemmas.Iterator.Consumers.{YieldsList-from_shown}
use Rattle.std.proofs.lemmas.List.{map-id}
use Rattle.tabled_records.specs.declared.empty.EmptyCells.{EmptyCells}
use Rattle.tabled_records.specs.declared.empty.EmptyRows.{EmptyRows}
use Rattle.tabled_records.specs.Empty.{cells_left, rows_left}

given_by : {U S A B : Type 0} {becomes : U → S → Type 0} {steps : S → Option A → S → Type 0} {cells : U}
    {items : List A} (v : A → B) (all : List B) → Given becomes steps cells items
    → ((it : S) → becomes cells it → YieldsList steps v it all) → map v items ≡ all
given_by {items = items} v all given road =
    let d = given.drained in
    items_from_drains items (d.1.0, d.1.1, λ _. (d.0, d.1.2)) (road given.iterator given.made)

given_cells : {same : EmptyCells → EmptyCells → Type 0} (row : EmptyCells) (items : List (Bor (List ℕ)))
    → ((it : EmptyCells) → same row it → it ≡ row) → Given same (YieldsFirstBy (λ (cell : Bor (List ℕ)). cell.now) cells_left) row items
    → map (λ (cell : Bor (List ℕ)). cell.now) items ≡ cells_left row
given_cells row items made given =
    given_by (λ (cell : Bor (List ℕ)). cell.now) (cells_left row) given
    (λ it b. subst (λ v. YieldsList (YieldsFirstBy (λ (cell : Bor (List ℕ)). cell.now) cells_left) (λ (cell : Bor (List ℕ)). cell.now) it
    (cells_left v)) (made it b)
    (YieldsList-from_shown (YieldsFirstBy (λ (cell : Bor (List ℕ)). cell.now) cells_left) (λ (cell : Bor (List ℕ)). cell.now) cells_left
    (λ s t h. ap length h.0) (λ s x t h. h) it))

all_given : {same : EmptyCells → EmptyCells → Type 0} → ((row it : EmptyCells) → same row it → it ≡ row)
    → (rows : List EmptyCells) (cells : List (List (Bor (List ℕ))))
    → AllZip (Given same (YieldsFirstBy (λ (cell : Bor (List ℕ)). cell.now) cells_left)) rows cells
    → map (map (λ (cell : Bor (List ℕ)). cell.now)) cells ≡ map cells_left rows
all_given made [] [] h = refl
all_given made [] (c ∷ cs) h = absurd h
all_given made (r ∷ rs) [] h = absurd h
all_given made (r ∷ rs) (c ∷ cs) h =
    ap (λ l. l ∷ map (map (λ (cell : Bor (List ℕ)). cell.now)) cs) (given_cells r c (made r) h.0) ∙ ap (λ l. cells_left r ∷ l) (all_given made rs cs h.1)

map-replicate : {A B : Type 0} (f : A → B) (n : ℕ) (x : A) → map f (replicate n x) ≡ replicate n (f x)
map-replicate f zero x = refl
map-replicate f (suc n) x = ap (λ l. f x ∷ l) (map-replicate f n x)

-- so many rows of so many empty texts
pub empty_rows : {rows_same : EmptyRows → EmptyRows → Type 0} {same : EmptyCells → EmptyCells → Type 0} (rows : EmptyRows) (cells : List (List (Bor (List ℕ))))
    → ((it : EmptyRows) → rows_same rows it → it ≡ rows) → ((row it : EmptyCells) → same row it → it ≡ row)
    → RowsGiven rows_same (YieldsFirst rows_left) same (YieldsFirstBy (λ (cell : Bor (List ℕ)). cell.now) cells_left) rows cells
    → map (map (λ (cell : Bor (List ℕ)). cell.now)) cells ≡ replicate rows.count (replicate rows.columns [])
empty_rows rows cells made made_row given =
    let lists = sym (map-id given.lists) ∙ given_by (λ row. row) (rows_left rows) given.all
    (λ it b. subst (λ v. YieldsList (YieldsFirst rows_left) (λ row. row) it (rows_left v)) (made it b)
    (YieldsList-from_shown (YieldsFirst rows_left) (λ row. row) rows_left (λ s t h. ap length h.0) (λ s x t h. h) it)) in
    all_given made_row given.lists cells given.each ∙ ap (map cells_left) lists
    ∙ map-replicate cells_left rows.count (record { count = rows.columns })

nth_of_empty : (n k : ℕ) (none : List ℕ) → slice_index_or (replicate n none) k none ≡ none
nth_of_empty zero k none = refl
nth_of_empty (suc n) zero none = refl
nth_of_empty (suc n) (suc k) none = nth_of_empty n k none

-- each of the texts is empty
pub cell_of_empty : (rows columns row column : ℕ) → cell_at (replicate rows (replicate columns [])) row column ≡ []
cell_of_empty zero columns row column = refl
cell_of_empty (suc rows) columns zero column = nth_of_empty columns column []
cell_of_empty (suc rows) columns (suc row) column = cell_of_empty rows columns row column
