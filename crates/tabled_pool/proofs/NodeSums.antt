-- The nodes of lists of trees.
use Rattle.tabled_pool.proofs.Names.{List, TableValue, [], ap, arith, get_or, length, map, map-append, nodes, nodes_in, suc, zero, ℕ, ◌++◌}
use Rattle.tabled_pool.proofs.Names.{◌+◌, ◌<◌, ◌∙◌, ◌∷◌, ◌≡◌, ◌≤◌}
use Rattle.std.proofs.Common.{sum}
use Rattle.std.proofs.lemmas.List.Sums.{sum_by-cons, sum_by_push}

pub nodes_in_cons : (v : TableValue) (xs : List TableValue) → nodes_in (v ∷ xs) ≡ nodes v + nodes_in xs
nodes_in_cons v xs = sum_by-cons (λ (x : ℕ). x) (nodes v) (map nodes xs)

pub nodes_in_push : (xs : List TableValue) (v : TableValue) → nodes_in (xs ++ v ∷ []) ≡ nodes_in xs + nodes v
nodes_in_push xs v = ap sum (map-append nodes xs (v ∷ [])) ∙ sum_by_push (λ (x : ℕ). x) (map nodes xs) (nodes v)

pub nodes_in_at : (xs : List TableValue) (i : ℕ) (d : TableValue) → i < length xs → nodes (get_or xs i d) ≤ nodes_in xs
nodes_in_at [] i d h = absurd (omega arith)
nodes_in_at (v ∷ xs) zero d h = omega (arith, nodes_in_cons v xs)
nodes_in_at (v ∷ xs) (suc i) d h = let m : nodes (get_or xs i d) ≤ nodes_in xs = nodes_in_at xs i d (omega arith) in omega (arith, nodes_in_cons v xs)
