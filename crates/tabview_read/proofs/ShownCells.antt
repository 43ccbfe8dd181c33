-- The cells of a row, and the texts that are shown of it.
use Rattle.std.proofs.Common.{◌≡◌, ℕ, zero, suc, ◌+◌, List, [], ◌∷◌, ◌++◌, length, map, refl, sym, ap, ◌∙◌, arith, eqb-true}
use Rattle.std.specs.Prelude.{◌==◌, Bool, if◌then◌else◌, true}
use Rattle.std.specs.List.{list_any, range_with_len}
use Rattle.std.proofs.lemmas.List.FromFn.{map-range_with_len_more}
use Rattle.csv.specs.Records.{field_at, fields_of}
use Rattle.tabview_cells.specs.declared.choice.Shown.{Shown}
use Rattle.tabview_cells.specs.Choice.{cell_of, shown_cell}
use Rattle.tabview_read.specs.Shown.{cell_or, number_of, shown_cells, texts_of}
use Rattle.tabview_read.specs.declared.row.Row.{Row}

map-same : {X Y : Type 0} (f g : X → Y) → ((x : X) → f x ≡ g x) → (xs : List X) → map f xs ≡ map g xs
map-same f g e [] = refl
map-same f g e (x ∷ xs) = ap (λ y. y ∷ map f xs) (e x) ∙ ap (λ ys. g x ∷ ys) (map-same f g e xs)

map-next : {Y : Type 0} (f : ℕ → Y) (a n : ℕ) → map f (range_with_len (a + 1) n) ≡ map (λ i. f (suc i)) (range_with_len a n)
map-next f a zero = refl
map-next f a (suc n) =
    let e : a + 1 ≡ suc a = omega arith in
    ap (λ k. f k ∷ map f (range_with_len (a + 1 + 1) n)) e ∙ ap (λ ys. f (suc a) ∷ ys) (map-next f (a + 1) n)

cells-all : (cells : List (List ℕ)) → map (cell_of cells) (range_with_len 0 (length cells)) ≡ cells
unfolding field_at
cells-all [] = refl
cells-all (cell ∷ cells) = ap (λ ys. cell ∷ ys) (map-next (cell_of (cell ∷ cells)) 0 (length cells) ∙ cells-all cells)

none-left : (xs : List ℕ) → (length xs == 0) ≡ true → xs ≡ []
none-left [] h = refl
none-left (x ∷ xs) h = let e : length (x ∷ xs) ≡ 0 = eqb-true (length (x ∷ xs)) 0 h in absurd (omega arith)

-- a row without null is shown as it is
pub shown_all : (null : List ℕ) (row : Row) → (length row.nulls.items == 0) ≡ true → shown_cells null row ≡ fields_of row.cells
shown_all null row h =
    let fields = fields_of row.cells in
    let e = none-left row.nulls.items h in
    map-same (cell_or null row) (cell_of fields) (λ i. ap (λ ns. if list_any (λ n. n == i) ns then null else cell_of fields i) e) (range_with_len 0 (length fields))
    ∙ cells-all fields

-- the texts that are shown of the same cells behind the same number
pub texts-same : (numbers : Bool) (shown : Shown) (n m : List ℕ) (cells others : List (List ℕ)) (columns : List ℕ)
    → number_of numbers n ≡ number_of numbers m → cells ≡ others → texts_of numbers n shown cells columns ≡ texts_of numbers m shown others columns
texts-same numbers shown n m cells others columns e same =
    ap (λ l. l ++ map (shown_cell shown cells) columns) e ∙ ap (λ cs. number_of numbers m ++ map (shown_cell shown cs) columns) same

-- one more cell
pub cells-more : {X : Type 0} (f : ℕ → X) (n : ℕ) (xs : List X) (x : X) → xs ≡ map f (range_with_len 0 n) → x ≡ f n → xs ++ x ∷ [] ≡ map f (range_with_len 0 (n + 1))
cells-more f n xs x e h =
    ap (λ ys. ys ++ x ∷ []) e ∙ ap (λ y. map f (range_with_len 0 n) ++ y ∷ []) h ∙ sym (map-range_with_len_more f 0 n n (omega arith))
