-- Rows of values that are collected one after another.
use Rattle.tabled_pool.proofs.Names.{List, Option, TableValue, Tree, [], ap, map, map-append, sym, tree_of, ℕ, ◌++◌, ◌∙◌, ◌∷◌, ◌≡◌}
use Rattle.std.specs.List.{AllZip}
use Rattle.tabled_base.specs.Given.{Given}
use Rattle.tabled_pool.specs.Tree.{tree_of_row}

all_zip-more : {X Y : Type 0} (R : X → Y → Type 0) (xs : List X) (ys : List Y) (x : X) (y : Y) → AllZip R xs ys
    → R x y → AllZip R (xs ++ x ∷ []) (ys ++ y ∷ [])
all_zip-more R [] [] x y h r = (r, tt)
all_zip-more R [] (b ∷ ys) x y h r = absurd h
all_zip-more R (a ∷ xs) [] x y h r = absurd h
all_zip-more R (a ∷ xs) (b ∷ ys) x y h r = (h.0, all_zip-more R xs ys x y h.1 r)

-- the values so far are rows of the texts of the cells
pub record Collected {W T A : Type 0} (becomes : W → T → Type 0) (steps : T → Option A → T → Type 0)
    (text : A → List ℕ) (lists : List W) (values : List TableValue) : Type 0 where
  pub cells : List (List A)
  pub each : AllZip (Given becomes steps) lists cells
  pub trees : map tree_of values ≡ map tree_of_row (map (map text) cells)

pub collected-more : {W T A : Type 0} {becomes : W → T → Type 0} {steps : T → Option A → T → Type 0} {text : A → List ℕ}
    {lists : List W} {list : W} {items : List A} (values new : List TableValue) (value : TableValue)
    → Collected becomes steps text lists values → new ≡ values ++ value ∷ [] → Given becomes steps list items
    → tree_of value ≡ tree_of_row (map text items) → Collected becomes steps text (lists ++ list ∷ []) new
collected-more {becomes = becomes} {steps = steps} {text = text} {lists = lists} {list = list} {items = items} values new value h e given t =
    let row : List (List ℕ) → Tree = tree_of_row in
    record {
      cells = h.cells ++ items ∷ [];
      each = all_zip-more (Given becomes steps) lists h.cells list items h.each given;
      trees =
          ap (map tree_of) e ∙ map-append tree_of values (value ∷ []) ∙ ap (λ u. u ++ tree_of value ∷ []) h.trees
          ∙ ap (λ u. map row (map (map text) h.cells) ++ u ∷ []) t
          ∙ sym (map-append row (map (map text) h.cells) (map text items ∷ []))
          ∙ ap (map row) (sym (map-append (map text) h.cells (items ∷ [])));
    }
