-- A list that is put below others, and those that are left.
use Rattle.tabled_pool.proofs.Names.{List, TableValue, Tree, [], ap, append_assoc, arith, left_in, map, map-append, nodes, nodes_in, refl}
use Rattle.tabled_pool.proofs.Names.{sym, tree_of, ◌++◌, ◌+◌, ◌∙◌, ◌∷◌, ◌≡◌}
use Rattle.tabled_pool.specs.declared.tree.Level.{Level}
use Rattle.tabled_pool.proofs.NodeSums.{nodes_in_cons}
use Rattle.tabled_pool.specs.Tree.{IsBegun, filled, list, within}

pub within_push : (ls : List Level) (l : Level) (t : Tree) → within (ls ++ l ∷ []) t ≡ within ls (filled l t)
within_push [] l t = refl
within_push (m ∷ ls) l t = ap (filled m) (within_push ls l t)

pub left_in_push : (ls : List Level) (l : Level) → left_in (ls ++ l ∷ []) ≡ left_in ls + nodes_in l.left.now + 1
left_in_push [] l = omega arith
left_in_push (m ∷ ls) l = let h : left_in (ls ++ l ∷ []) ≡ left_in ls + nodes_in l.left.now + 1 = left_in_push ls l in omega arith

-- a list is begun
pub begun : (levels : List Level) (l : Level) (first : TableValue) (children : List TableValue) → l.copies.items ≡ [] → children ≡ first ∷ l.left.now
    → IsBegun levels (list l.is_row (map tree_of children)) (nodes_in children + 1) (levels ++ l ∷ []) first
begun levels l first children e h =
    let whole : nodes_in children ≡ nodes first + nodes_in l.left.now = rw h (nodes_in_cons first l.left.now) in
    let more : left_in (levels ++ l ∷ []) ≡ left_in levels + nodes_in l.left.now + 1 = left_in_push levels l in
    record {
      same = within_push levels l (tree_of first)
          ∙ ap (λ (xs : List TableValue). within levels (list l.is_row (map tree_of xs ++ tree_of first ∷ map tree_of l.left.now))) e
          ∙ ap (λ (xs : List TableValue). within levels (list l.is_row (map tree_of xs))) (sym h);
      left = omega arith;
      smaller = omega arith;
    }

-- the last copy is added to a list
pub ended : (ls : List Level) (l : Level) (copies : List TableValue) (copy whole : TableValue) → copies ≡ l.copies.items ++ copy ∷ []
    → l.left.now ≡ [] → tree_of whole ≡ list l.is_row (map tree_of copies) → within ls (tree_of whole) ≡ within (ls ++ l ∷ []) (tree_of copy)
ended ls l copies copy whole e n h =
    rw (within_push ls l (tree_of copy), h, e, n, map-append tree_of l.copies.items (copy ∷ [])) refl

-- a copy is added to a list, whose next value is `next`
pub goes_on : (ls : List Level) (l m : Level) (copy next : TableValue) → m.is_row ≡ l.is_row → m.copies.items ≡ l.copies.items ++ copy ∷ []
    → l.left.now ≡ next ∷ m.left.now → within (ls ++ m ∷ []) (tree_of next) ≡ within (ls ++ l ∷ []) (tree_of copy)
goes_on ls l m copy next r e h =
    rw (within_push ls m (tree_of next), within_push ls l (tree_of copy), r, e, h, map-append tree_of l.copies.items (copy ∷ []))
    (ap (λ ts. within ls (list l.is_row ts)) (append_assoc (map tree_of l.copies.items) (tree_of copy ∷ []) _))
