-- What holds of the boxes of texts, and of boxes that are joined, holds of the box of each tree.
use Rattle.tabled_pool.proofs.Names.{Across, Box, BoxSpacing, Cell, Column, Direction, Down, EachText, IsUtf8, List, Row, TableValue, Tree}
use Rattle.tabled_pool.proofs.Names.{[], arith, box_of, box_step, fold-roll-TableValue, ind-TableValue, joined_box, leaf_box, length}
use Rattle.tabled_pool.proofs.Names.{list_box, map, map-TableValue, roll-TableValue, string_bytes, subst, sym, tree_of, trees, ℕ, ◌+◌, ◌<◌}
use Rattle.tabled_pool.proofs.Names.{◌∷◌}
use Rattle.std.proofs.lemmas.Str.{IsUtf8-string_bytes}
use Rattle.tabled_pool.specs.declared.tree.TableValue.TheOpen.{TableValue-F}
use Rattle.tabled_pool.specs.Tree.{EachTextIn, tree_step}

-- boxes of texts of a kind, the empty text among them, have a property, and joined boxes keep it
pub record IsKept (g : BoxSpacing) (IsText : List ℕ → Type 0) (P : Box → Type 0) : Type 0 where
  pub empty : IsText []
  pub leaf : (text : List ℕ) → IsText text → P (leaf_box g text)
  pub joined : (d : Direction) (k : ℕ) (b c : Box) → 0 < k → P b → P c → P (joined_box d g k b c)

module _ {g : BoxSpacing} {IsText : List ℕ → Type 0} {P : Box → Type 0} (kept : IsKept g IsText P) where
  abbrev EachBox : List Box → Type 0
  EachBox [] = Unit {0}
  EachBox (b ∷ bs) = P b × EachBox bs

  of-list : (d : Direction) (bs : List Box) → EachBox bs → P (list_box d g bs)
  of-list d [] ts = kept.leaf [] kept.empty
  of-list d (b ∷ []) (t, ts) = t
  of-list d (b ∷ (c ∷ bs)) (t, ts) =
      kept.joined d (length (c ∷ bs) + 1) b (list_box d g (c ∷ bs)) (omega arith) t (of-list d (c ∷ bs) ts)

  abbrev Holds : TableValue → Type 0
  Holds t = EachText IsText (tree_of t) → P (box_of g t)

  each-of : (es : List ((t : TableValue) × Holds t)) → EachTextIn IsText (trees (map tree_of (map (λ e. e.0) es)))
      → EachBox (map (box_of g) (map (λ e. e.0) es))
  each-of [] h = tt
  each-of (e ∷ es) h = (e.1 h.0, each-of es h.1)

  of-step : (y : TableValue-F ((t : TableValue) × Holds t))
      → EachText IsText (tree_step (map-TableValue _ Tree tree_of (map-TableValue _ TableValue (λ e. e.0) y)))
      → P (box_step g (map-TableValue _ Box (box_of g) (map-TableValue _ TableValue (λ e. e.0) y)))
  of-step (Cell s) h = kept.leaf (string_bytes s) h
  of-step (Row v) h = of-list Across _ (each-of v.items h)
  of-step (Column v) h = of-list Down _ (each-of v.items h)

  pub of-tree : (t : TableValue) → EachText IsText (tree_of t) → P (box_of g t)
  of-tree = ind-TableValue Holds (λ x y is.
      subst (λ z. Holds (roll-TableValue z)) is
      (λ h. subst P (sym (fold-roll-TableValue Box (box_step g) (map-TableValue _ TableValue (λ e. e.0) y)))
      (of-step y (subst (EachText IsText) (fold-roll-TableValue Tree tree_step (map-TableValue _ TableValue (λ e. e.0) y)) h))))

-- ---- texts are UTF-8

abbrev IsText : TableValue → Type 0
IsText t = EachText IsUtf8 (tree_of t)

all-utf8 : (es : List ((t : TableValue) × IsText t)) → EachTextIn IsUtf8 (trees (map tree_of (map (λ e. e.0) es)))
all-utf8 [] = tt
all-utf8 (e ∷ es) = (e.1, all-utf8 es)

step-utf8 : (y : TableValue-F ((t : TableValue) × IsText t))
    → EachText IsUtf8 (tree_step (map-TableValue _ Tree tree_of (map-TableValue _ TableValue (λ e. e.0) y)))
step-utf8 (Cell s) = IsUtf8-string_bytes s
step-utf8 (Row v) = all-utf8 v.items
step-utf8 (Column v) = all-utf8 v.items

pub tree-utf8 : (t : TableValue) → EachText IsUtf8 (tree_of t)
tree-utf8 = ind-TableValue IsText (λ x y is.
    subst (λ z. IsText (roll-TableValue z)) is
    (subst (EachText IsUtf8) (sym (fold-roll-TableValue Tree tree_step (map-TableValue _ TableValue (λ e. e.0) y))) (step-utf8 y)))
