-- Rows that get one more cell.
use Rattle.std.proofs.Common.{◌≡◌, ℕ, ◌+◌, ◌<◌, ◌≤◌, List, [], ◌∷◌, ◌++◌, Option, length, map, take, get_or, sym, ap, subst, ◌∙◌, append_assoc, arith, length-append}
use Rattle.std.proofs.lemmas.List.{append-nil, length-map, map-append, take_all, take_more}
use Rattle.csv.specs.Records.{fields_of}
use Rattle.json.specs.Json.{Json}
use Rattle.tabview_read.specs.Cells.{cell_of, null_at, nulls_from, AddsCell, AddsCells}
use Rattle.tabview_read.specs.declared.row.Row.{Row}

pub AddsCells-none : (row : Row) → AddsCells [] row row
AddsCells-none row = record { cells = sym (append-nil _); nulls = sym (append-nil _) }

nulls_from-append : (column : ℕ) (os : List (Option Json)) (o : Option Json) → nulls_from column (os ++ o ∷ []) ≡ nulls_from column os ++ null_at o (column + length os)
nulls_from-append column [] o = let e : column + 0 ≡ column = omega arith in append-nil _ ∙ sym (ap (null_at o) e)
nulls_from-append column (p ∷ os) o =
    let e : column + 1 + length os ≡ column + length (p ∷ os) = omega arith in
    ap (λ l. null_at p column ++ l) (nulls_from-append (column + 1) os o ∙ ap (λ k. nulls_from (column + 1) os ++ null_at o k) e)
    ∙ sym (append_assoc (null_at p column) (nulls_from (column + 1) os) _)

pub AddsCells-more : (os : List (Option Json)) (o : Option Json) (a b c : Row) → AddsCells os a b → AddsCell o b c → AddsCells (os ++ o ∷ []) a c
AddsCells-more os o a b c begun more =
    let size : length (fields_of b.cells) ≡ length (fields_of a.cells) + length os =
    ap length begun.cells ∙ length-append (fields_of a.cells) (map cell_of os) ∙ ap (λ k. length (fields_of a.cells) + k) (length-map os cell_of) in
    record {
      cells = more.cells ∙ ap (λ l. l ++ cell_of o ∷ []) begun.cells ∙ append_assoc (fields_of a.cells) (map cell_of os) (map cell_of (o ∷ [])) ∙ ap (λ l. fields_of a.cells ++ l) (sym (map-append cell_of os (o ∷ [])));
      nulls = more.nulls ∙ ap (λ l. l ++ null_at o (length (fields_of b.cells))) begun.nulls
          ∙ append_assoc a.nulls.items (nulls_from (length (fields_of a.cells)) os) (null_at o (length (fields_of b.cells)))
          ∙ ap (λ l. a.nulls.items ++ l) (ap (λ k. nulls_from (length (fields_of a.cells)) os ++ null_at o k) size ∙ sym (nulls_from-append (length (fields_of a.cells)) os o));
    }

pub AddsCells-next : {X : Type 0} (f : X → Option Json) (xs : List X) (i : ℕ) (d x : X) (a b c : Row) → i < length xs → x ≡ get_or xs i d
    → AddsCells (map f (take i xs)) a b → AddsCell (f x) b c → AddsCells (map f (take (i + 1) xs)) a c
AddsCells-next f xs i d x a b c h e begun more =
    let same : map f (take i xs) ++ f x ∷ [] ≡ map f (take (i + 1) xs) =
    ap (λ y. map f (take i xs) ++ f y ∷ []) e ∙ sym (ap (map f) (take_more xs i d h) ∙ map-append f (take i xs) (get_or xs i d ∷ [])) in
    subst (λ os. AddsCells os a c) same (AddsCells-more (map f (take i xs)) (f x) a b c begun more)

pub AddsCells-all : {X : Type 0} (f : X → Option Json) (xs : List X) (i : ℕ) (a b : Row) → length xs ≤ i → AddsCells (map f (take i xs)) a b → AddsCells (map f xs) a b
AddsCells-all f xs i a b h all = subst (λ ys. AddsCells (map f ys) a b) (take_all i xs h) all
