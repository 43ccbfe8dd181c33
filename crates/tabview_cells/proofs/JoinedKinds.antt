-- The kinds of columns after one more cell of a row.
use Rattle.std.proofs.Common.{Bool, true, false, if◌then◌else◌, nat_eq, List, [], ◌∷◌, ◌++◌, ℕ, ◌+◌, ◌<◌, ◌≡◌, ◌∙◌, ap, arith, get_or, length, map, refl, sym, take}
use Rattle.std.specs.Cmp.Lexicographic.{pointwise}
use Rattle.std.specs.List.{list_all}
use Rattle.std.proofs.lemmas.List.{length-map, length-take-le, map-append, take_more}
use Rattle.tabview_cells.specs.Choice.{counting}
use Rattle.tabview_cells.specs.Kinds.{joined, joined_at, joined_kinds, kind_of}
use Rattle.tabview_cells.specs.declared.kinds.Kind.{Kind}

-- a row without cells changes nothing
pub joined-none : (kinds : List Kind) → kinds ≡ joined_kinds kinds []
unfolding joined_kinds
joined-none [] = refl
joined-none (kind ∷ kinds) = refl

-- the cell behind those of a row joins the next column
joined-behind : (kinds : List Kind) (cells : List (List ℕ)) (cell : List ℕ)
    → joined_at (joined_kinds kinds cells) (length cells) cell ≡ joined_kinds kinds (cells ++ cell ∷ [])
unfolding joined_kinds
joined-behind [] [] cell = refl
joined-behind [] (c ∷ cells) cell = refl
joined-behind (kind ∷ []) [] cell = refl
joined-behind (kind ∷ _ ∷ _) [] cell = refl
joined-behind (kind ∷ kinds) (c ∷ cells) cell = ap (λ rest. joined kind (kind_of c) ∷ rest) (joined-behind kinds cells cell)

-- so it is with the cells that columns choose
pub joined-more : (f : ℕ → List ℕ) (columns : List ℕ) (i : ℕ) (kinds : List Kind) (cell : List ℕ) → i < length columns
    → cell ≡ f (get_or columns i 0)
    → joined_at (joined_kinds kinds (map f (take i columns))) i cell ≡ joined_kinds kinds (map f (take (i + 1) columns))
joined-more f columns i kinds cell h e =
    let count : length (map f (take i columns)) ≡ i = length-map (take i columns) f ∙ length-take-le i columns (omega arith) in
    let more = sym (ap (map f) (take_more columns i 0 h) ∙ map-append f (take i columns) (get_or columns i 0 ∷ [])) in
    ap (λ n. joined_at (joined_kinds kinds (map f (take i columns))) n cell) (sym count)
    ∙ joined-behind kinds (map f (take i columns)) cell
    ∙ ap (λ c. joined_kinds kinds (map f (take i columns) ++ c ∷ [])) e
    ∙ ap (joined_kinds kinds) more

-- what holds of all bytes of a cell holds of one that counts
pub counting-all : (test : ℕ → Bool) (blank cell : List ℕ) → list_all test cell ≡ true → list_all test (counting blank cell) ≡ true
counting-all test blank cell h = by_case (pointwise nat_eq cell blank)
  where
    by_case : (b : Bool) → list_all test (if b then [] else cell) ≡ true
    by_case true = refl
    by_case false = h
