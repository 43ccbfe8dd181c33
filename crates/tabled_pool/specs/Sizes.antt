-- The sizes that the boxes in a tree need, the last one first: placing takes them from the end.
use Rattle.std.specs.Prelude.{◌≡◌, List, [], ◌∷◌, ◌++◌, map, string_bytes, true}
use Rattle.tabled_pool.specs.declared.sizes.BoxSpacing.{BoxSpacing}
use Rattle.tabled_pool.specs.declared.sizes.Direction.TheVariants.{Across, Down}
use Rattle.tabled_pool.specs.declared.sizes.Size.{Size}
use Rattle.tabled_pool.specs.declared.sizes.SizeList.{SizeList}
use Rattle.tabled_pool.specs.declared.tree.TableValue.{TableValue}
use Rattle.tabled_pool.specs.declared.tree.TableValue.TheOpen.{TableValue-F, Row, Column, Cell}
use Rattle.tabled_pool.specs.declared.tree.TableValue.TheFolds.{fold-TableValue}
use Rattle.tabled_pool.specs.Boxes.{Box, leaf_box, list_box}

-- the box of a tree, and the sizes of the boxes in it
pub record Measured : Type 0 where
  pub box : Box
  pub inside : List Size

abbrev pub size_of : Box → Size
size_of b = record { width = b.width; height = b.height }

-- the sizes of boxes one after another: the first box is the last one, behind the boxes in it
abbrev pub sizes_of : List Measured → List Size
sizes_of [] = []
sizes_of (m ∷ ms) = sizes_of ms ++ (m.inside ++ (size_of m.box ∷ []))

-- a list of one box is that box
abbrev pub sizes_in : List Measured → List Size
sizes_in [] = []
sizes_in (m ∷ []) = m.inside
sizes_in (m ∷ (n ∷ ms)) = sizes_of (m ∷ (n ∷ ms))

abbrev pub measured_step : BoxSpacing → TableValue-F Measured → Measured
measured_step g (Cell s) = record { box = leaf_box g (string_bytes s); inside = [] }
measured_step g (Row v) = record {
  box = list_box Across g (map (λ (m : Measured). m.box) v.items);
  inside = sizes_in v.items;
}
measured_step g (Column v) = record {
  box = list_box Down g (map (λ (m : Measured). m.box) v.items);
  inside = sizes_in v.items;
}

abbrev pub measured : BoxSpacing → TableValue → Measured
measured g = fold-TableValue Measured (measured_step g)

-- the sizes of the boxes in a tree
abbrev pub sizes_within : BoxSpacing → TableValue → List Size
sizes_within g v = (measured g v).inside

-- the sizes of trees one after another, and of the boxes in them
abbrev pub sizes_of_all : BoxSpacing → List TableValue → List Size
sizes_of_all g vs = sizes_of (map (measured g) vs)

-- ---- Of private steps: no public call promises this.

-- a list that is complete afterwards was so before, and has these sizes in addition
pub record AreAdded (old new : SizeList) (sizes : List Size) : Type 0 where
  pub complete : new.is_complete ≡ true → old.is_complete ≡ true
  pub items : new.is_complete ≡ true → new.sizes.items ≡ old.sizes.items ++ sizes

-- the sizes are the last ones of a list
pub record EndsWith (all sizes : List Size) : Type 0 where
  pub before : List Size
  pub same : all ≡ before ++ sizes
