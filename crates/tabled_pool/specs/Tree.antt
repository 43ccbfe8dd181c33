-- The tree of texts that a `TableValue` holds, how many texts and lists it has, and lists that are
-- being copied.
use Rattle.std.specs.Prelude.{ℕ, List, [], ◌∷◌, map, string_bytes, ◌+◌, sum, ◌≡◌, ◌<◌, ◌≤◌, Bool, true, false, ◌++◌, length}
use Rattle.tabled_pool.specs.declared.tree.TableValue.{TableValue}
use Rattle.tabled_pool.specs.declared.tree.TableValue.TheOpen.{TableValue-F, Row, Column, Cell}
use Rattle.tabled_pool.specs.declared.tree.TableValue.TheFolds.{fold-TableValue}
use Rattle.tabled_pool.specs.declared.sizes.BoxSpacing.{BoxSpacing}
use Rattle.tabled_pool.specs.Boxes.{box_of}
use Rattle.tabled_pool.specs.Sizes.{sizes_within}
use Rattle.tabled_pool.specs.declared.tree.Level.{Level}

-- a text, trees side by side, or trees below each other
mutual
  pub data Tree : Type 0 where
    leaf : List ℕ → Tree
    across : Trees → Tree
    down : Trees → Tree

  pub data Trees : Type 0 where
    none : Trees
    one_more : Tree → Trees → Trees

abbrev pub trees : List Tree → Trees
trees [] = none
trees (t ∷ ts) = one_more t (trees ts)

abbrev pub tree_step : TableValue-F Tree → Tree
tree_step (Cell s) = leaf (string_bytes s)
tree_step (Row v) = across (trees v.items)
tree_step (Column v) = down (trees v.items)

abbrev pub tree_of : TableValue → Tree
tree_of = fold-TableValue Tree tree_step

-- a row of texts
abbrev pub tree_of_row : List (List ℕ) → Tree
tree_of_row row = across (trees (map leaf row))

-- rows of texts, below each other
abbrev pub tree_of_rows : List (List (List ℕ)) → Tree
tree_of_rows rows = down (trees (map tree_of_row rows))

-- `IsKind` holds for each text of a tree
abbrev mutual
  pub EachText : (List ℕ → Type 0) → Tree → Type 0
  EachText IsKind (leaf text) = IsKind text
  EachText IsKind (across ts) = EachTextIn IsKind ts
  EachText IsKind (down ts) = EachTextIn IsKind ts

  pub EachTextIn : (List ℕ → Type 0) → Trees → Type 0
  EachTextIn IsKind none = Unit {0}
  EachTextIn IsKind (one_more t ts) = EachText IsKind t × EachTextIn IsKind ts

-- ---- how many texts and lists a tree has

abbrev pub nodes_step : TableValue-F ℕ → ℕ
nodes_step (Cell s) = 1
nodes_step (Row v) = sum v.items + 1
nodes_step (Column v) = sum v.items + 1

abbrev pub nodes : TableValue → ℕ
nodes = fold-TableValue ℕ nodes_step

abbrev pub nodes_in : List TableValue → ℕ
nodes_in xs = sum (map nodes xs)

-- ---- lists of one value, and what is in them

-- how many values are in a list
abbrev pub child_count_step : TableValue-F ℕ → ℕ
child_count_step (Cell s) = 0
child_count_step (Row v) = length v.items
child_count_step (Column v) = length v.items

abbrev pub child_count : TableValue → ℕ
child_count = fold-TableValue ℕ child_count_step

pub record IsOnlyChild (list child : TableValue) : Type 0 where
  pub box : (g : BoxSpacing) → box_of g list ≡ box_of g child
  pub sizes : (g : BoxSpacing) → sizes_within g list ≡ sizes_within g child
  pub fewer : nodes child < nodes list

pub record IsInner (value inner : TableValue) : Type 0 where
  pub box : (g : BoxSpacing) → box_of g value ≡ box_of g inner
  pub sizes : (g : BoxSpacing) → sizes_within g value ≡ sizes_within g inner
  pub fewer : nodes inner ≤ nodes value

-- ---- Of private steps: no public call promises this.
-- Lists that are being copied, the outermost first

-- trees side by side, or below each other
abbrev pub list : Bool → List Tree → Tree
list true ts = across (trees ts)
list false ts = down (trees ts)

-- the list of a level, with a tree in place of its current value
abbrev pub filled : Level → Tree → Tree
filled l t = list l.is_row (map tree_of l.copies.items ++ t ∷ map tree_of l.left.now)

-- the outermost list, with a tree in place of the current value
abbrev pub within : List Level → Tree → Tree
within [] t = t
within (l ∷ ls) t = filled l (within ls t)

-- how many texts and lists are left to copy, and how many lists to end
abbrev pub left_in : List Level → ℕ
left_in [] = 0
left_in (l ∷ ls) = nodes_in l.left.now + 1 + left_in ls

-- on the way down: `now` is the current value in place of `value`
pub record GoesDown (before : List Level) (value : TableValue) (after : List Level) (now : TableValue) : Type 0 where
  pub same : within after (tree_of now) ≡ within before (tree_of value)
  pub left : nodes now + left_in after ≤ nodes value + left_in before

-- a list of `n` texts and lists is being copied, from its first value on
pub record IsBegun (before : List Level) (whole : Tree) (n : ℕ) (after : List Level) (first : TableValue) : Type 0 where
  pub same : within after (tree_of first) ≡ within before whole
  pub left : nodes first + left_in after ≤ n + left_in before
  pub smaller : nodes first < n
