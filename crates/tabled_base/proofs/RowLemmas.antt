-- Rows in vectors, as rows of texts.
use Rattle.tabled_base.proofs.Names.{Global, IsRectangular, List, Vec, [], ap, arith, cell_at, columns, get_or-map, inl, inr, length}
use Rattle.tabled_base.proofs.Names.{length-map, lengthened, map, map-id, map-set, set, slice_index_or, sym, texts_of, vec_capacity}
use Rattle.tabled_base.proofs.Names.{vec_len, ℕ, ◌+◌, ◌-◌, ◌<◌, ◌∙◌, ◌≡◌, ◌≤◌}
use Rattle.std.proofs.Common.{get_or-set_same, get_or-set_other}
use Rattle.std.proofs.lemmas.List.{set-get_or}
use Rattle.std.proofs.lemmas.Bool.{cases_eq}
use Rattle.std.specs.List.{All}
use Rattle.tabled_base.specs.Cells.{IsInside}

-- a row of the texts is that of the vector there
pub row_of : {T : Type 0} (f : T → List ℕ) (rows : List (Vec T Global)) (i : ℕ) (d : Vec T Global) → i < length rows
    → slice_index_or (texts_of f rows) i [] ≡ map f (slice_index_or rows i d).items
row_of f rows i d h = get_or-map (λ row. map f row.items) rows i d [] h

-- the row is there
pub row_inside : {T : Type 0} (f : T → List ℕ) (rows : List (Vec T Global)) (cells : List (List (List ℕ))) (i j : ℕ)
    → texts_of f rows ≡ cells → IsInside cells i j → i < length rows
row_inside f rows cells i j e h =
    let in_cells = h.row_in in
    omega (arith, ap length e, length-map rows (λ row. map f row.items))

-- the column is in the row that was read
pub column_inside : {T : Type 0} (f : T → List ℕ) (rows : List (Vec T Global)) (cells : List (List (List ℕ)))
    (i j : ℕ) (row : Vec T Global) → texts_of f rows ≡ cells → IsRectangular (texts_of f rows) → IsInside cells i j
    → row ≡ slice_index_or rows i row → j < vec_len row
column_inside f rows cells i j row e q h r =
    let b = row_inside f rows cells i j e h in
    let l : i < length (texts_of f rows) = rw length-map b in
    let long = ap length (sym (row_of f rows i row b)) ∙ (q i [] l ∙ ap columns e) in
    let same : length (slice_index_or rows i row).items ≡ length row.items = ap (λ (v : Vec _ Global). length v.items) (sym r) in
    let in_columns = h.column_in in
    omega (arith, long, same, row.ok.0, length-map (slice_index_or rows i row).items f)

-- what is read from it is the cell
pub cell_read : {T : Type 0} (f : T → List ℕ) (rows : List (Vec T Global)) (cells : List (List (List ℕ))) (i j : ℕ)
    (row : Vec T Global) (x : T) → texts_of f rows ≡ cells → IsRectangular (texts_of f rows) → IsInside cells i j
    → row ≡ slice_index_or rows i row → x ≡ slice_index_or row.items j x → f x ≡ cell_at cells i j
cell_read f rows cells i j row x e q h r y =
    let b = row_inside f rows cells i j e h in
    let k : j < length row.items = omega (arith, column_inside f rows cells i j row e q h r, row.ok.0) in
    ap f y ∙ sym (get_or-map f row.items j x [] k) ∙ ap (λ (v : Vec _ Global). slice_index_or (map f v.items) j []) r
    ∙ ap (λ l. slice_index_or l j []) (sym (row_of f rows i row b)) ∙ ap (λ c. cell_at c i j) e

-- a row that has the same items leaves the texts
pub texts_kept : {T : Type 0} (f : T → List ℕ) (rows : List (Vec T Global)) (i : ℕ) (row d : Vec T Global)
    → i < length rows → row.items ≡ (slice_index_or rows i d).items → texts_of f (set rows i row) ≡ texts_of f rows
texts_kept f rows i row d h e =
    let g : Vec _ Global → List (List ℕ) = λ row. map f row.items in
    map-set g rows i row ∙ ap (set (texts_of f rows) i) (ap (map f) e ∙ sym (get_or-map g rows i d [] h))
    ∙ set-get_or (texts_of f rows) i []

-- a row that is lengthened
pub texts_lengthened : (n : ℕ) (rows : List (Vec (List ℕ) Global)) (i : ℕ) (row d : Vec (List ℕ) Global) → i < length rows
    → row.items ≡ lengthened n (slice_index_or rows i d).items → texts_of (λ t. t) (set rows i row)
    ≡ set (texts_of (λ t. t) rows) i (lengthened n (slice_index_or (texts_of (λ t. t) rows) i []))
texts_lengthened n rows i row d h e =
    let g : Vec (List ℕ) Global → List (List ℕ) = λ row. map (λ t. t) row.items in
    map-set g rows i row
    ∙ ap (set (texts_of (λ t. t) rows) i)
    (map-id row.items ∙ (e ∙ ap (lengthened n) (sym (map-id (slice_index_or rows i d).items) ∙ sym (get_or-map g rows i d [] h))))

-- a row of some capacity is put in place of another
pub roomy-more : (n : ℕ) (rows : List (Vec (List ℕ) Global)) (i : ℕ) (row : Vec (List ℕ) Global) → i < length rows
    → ((k : ℕ) (d : Vec (List ℕ) Global) → k < i → n ≤ vec_capacity (slice_index_or rows k d)) → n ≤ vec_capacity row
    → (k : ℕ) (d : Vec (List ℕ) Global) → k < i + 1 → n ≤ vec_capacity (slice_index_or (set rows i row) k d)
roomy-more n rows i row h before here k d l =
    elim (cases_eq k i) [
      | inl e ↦ rw e (rw (get_or-set_same rows i row d h) here)
      | inr other ↦ rw (get_or-set_other rows i k row d other) (before k d (omega arith))
    ]

-- a row that has no room to be lengthened is shorter
pub short_row : (n : ℕ) (rows : List (Vec (List ℕ) Global)) (cells : List (List (List ℕ))) (i : ℕ) (row : Vec (List ℕ) Global)
    → i < length rows → texts_of (λ t. t) rows ≡ cells → row ≡ slice_index_or rows i row
    → vec_capacity row < vec_len row + (n - vec_len row) → ¬ All (λ r. n ≤ length r) cells
short_row n rows cells i row h e r full all =
    let inside : i < length cells = omega (arith, ap length e, length-map rows (λ row. map (λ t. t) row.items)) in
    let long = all i [] inside in
    let own = ap length (ap (λ c. slice_index_or c i []) (sym e) ∙ row_of (λ t. t) rows i row h ∙ ap (λ (v : Vec _ Global). map (λ t. t) v.items) (sym r)) in
    absurd (omega (arith, long, own, row.ok.0, row.ok.1, length-map row.items (λ (t : List ℕ). t)))
