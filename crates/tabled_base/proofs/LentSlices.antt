-- What rows that are lent as slices give.
use Rattle.tabled_base.proofs.Names.{AllZip, Given, List, [], ap, map, refl, sym, ℕ, ◌∙◌, ◌∷◌, ◌≡◌}
use Rattle.std.proofs.Common.{Bor, Iter}
use Rattle.std.specs.Iterator.{YieldsFirstBy}
use Rattle.std.specs.Slice.Iter.{iter_rest, iter_steps}
use Rattle.std.proofs.lemmas.Iterator.Consumers.{YieldsList-from_first}
use Rattle.std.proofs.lemmas.Simd.{map-map}
use Rattle.tabled_base.specs.RowsGiven.{RowsGiven}
use Rattle.tabled_base.specs.Slices.{slices_left}
use Rattle.tabled_base.specs.declared.row_slices.RowSlices.{RowSlices}
use Rattle.tabled_base.proofs.Giving.{given_items}
use Rattle.tabled_base.proofs.LentGiving.{given_lent}

lent_slices : {T : Type 0} {becomes : Bor (List T) → Iter T → Type 0} (f : T → List ℕ) (lists : List (Bor (List T)))
    (cells : List (List (Bor T))) → ((row : Bor (List T)) (it : Iter T) → becomes row it → iter_rest it ≡ row.now)
    → AllZip (Given becomes iter_steps) lists cells → map (map (λ cell. f cell.now)) cells ≡ map (λ row. map f row.now) lists
lent_slices f [] [] made h = refl
lent_slices f [] (row ∷ rows) made h = absurd h
lent_slices f (list ∷ lists) [] made h = absurd h
lent_slices f (list ∷ lists) (row ∷ rows) made h =
    let first = sym (map-map f (λ x. x.now) row) ∙ ap (map f) (given_lent list.now h.0 (made list)) in
    ap (λ l. l ∷ map (map (λ cell. f cell.now)) rows) first ∙ ap (λ l. map f list.now ∷ l) (lent_slices f lists rows made h.1)

-- rows that are lent as slices give the texts that are left
pub lent_slices_give : {T : Type 0} {rows_become : RowSlices T → RowSlices T → Type 0}
    {cells_become : Bor (List T) → Iter T → Type 0} {source : RowSlices T} {cells : List (List (Bor T))} (f : T → List ℕ)
    → RowsGiven rows_become (YieldsFirstBy (λ (row : Bor (List T)). map f row.now) slices_left) cells_become iter_steps source cells
    → ((it : RowSlices T) → rows_become source it → it ≡ source)
    → ((row : Bor (List T)) (it : Iter T) → cells_become row it → iter_rest it ≡ row.now)
    → map (map (λ cell. f cell.now)) cells ≡ slices_left source
lent_slices_give {source = source} {cells = cells} f given made made_row =
    lent_slices f given.lists cells made_row given.each
    ∙ given_items given.all (λ it b. YieldsList-from_first (λ row. map f row.now) slices_left (slices_left source) (ap slices_left (made it b)))
