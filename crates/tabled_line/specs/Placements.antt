-- The placements of the texts in a row.
use Rattle.std.specs.Prelude.{◌≡◌, ℕ, ◌+◌, ◌<◌, ◌≤◌, List, map}
use Rattle.std.specs.List.{range_with_len}
use Rattle.tabled_config.specs.declared.sides.Indent.{Indent}
use Rattle.tabled_config.specs.declared.sides.Sides.{Sides}
use Rattle.tabled_config.specs.declared.spanned.CellStyle.{CellStyle}
use Rattle.tabled_entity.specs.RowValues.{value_at}
use Rattle.tabled_line.specs.Block.{inner_width}
use Rattle.tabled_line.specs.Row.{ColumnSheet, RowSheet}
use Rattle.tabled_line.specs.declared.placement.AlignedCells.{AlignedCells}
use Rattle.tabled_line.specs.declared.placement.Placement.{Placement}
use Rattle.tabled_line.specs.declared.placement.KnownPlacements.{KnownPlacements}
use Rattle.tabled_line.specs.declared.placement.KnownPlacements.TheVariants.{Aligned, Cached, Styled, Uniform}
use Rattle.tabled_line.specs.declared.placement.UniformPlacement.{UniformPlacement}

-- side padding is spaces, and there is no top padding
pub record IsSpaced (padding : Sides Indent) : Type 0 where
  pub left : padding.left.fill ≡ 32
  pub right : padding.right.fill ≡ 32
  pub top : padding.top.size ≡ 0

-- the placement of a text with a style in a column of a width
abbrev pub placement_of : CellStyle → ℕ → Placement
placement_of style width = record { before = style.padding.left.size; content_width = inner_width style width; horizontal = style.horizontal }

-- the placement of texts with a style in columns of any width
abbrev pub uniform_of : CellStyle → UniformPlacement
uniform_of style =
    record {
      before = style.padding.left.size;
      sides = style.padding.left.size + style.padding.right.size;
      horizontal = style.horizontal;
    }

-- a style allows a placement, and its padding fits a width
pub record IsPlaceable (style : CellStyle) (width : ℕ) : Type 0 where
  pub spaced : IsSpaced style.padding
  pub fits : style.padding.left.size + style.padding.right.size ≤ width

-- this is the placement of a text with a style in a column of a width, which the style allows
abbrev pub IsPlacementIn : CellStyle → ℕ → Placement → Type 0
IsPlacementIn style width placement = (placement ≡ placement_of style width) × IsPlaceable style width

-- the placement in a column
abbrev pub cell_placement : (ℕ → CellStyle) → ColumnSheet → ℕ → Placement
cell_placement style columns column = placement_of (style column) (columns.width column)

-- the placements of all columns, each of which is allowed
pub record ArePlacements (style : ℕ → CellStyle) (columns : ColumnSheet) (placements : List Placement) : Type 0 where
  pub listed : placements ≡ map (cell_placement style columns) (range_with_len 0 columns.count)
  pub placeable : (column : ℕ) → column < columns.count → IsPlaceable (style column) (columns.width column)

-- a style allows a placement, and this is it
pub record IsUniform (style : CellStyle) (uniform : UniformPlacement) : Type 0 where
  pub spaced : IsSpaced style.padding
  pub uniform_is : uniform ≡ uniform_of style

-- the placement of the text in a column: that of all texts, with the column's own alignment
abbrev pub aligned_in : AlignedCells → ℕ → UniformPlacement
aligned_in cells column = record cells.uniform { horizontal = value_at cells.horizontal column }

-- what is known of the placements of a row's texts is true
abbrev pub AreKnown : (ℕ → CellStyle) → ColumnSheet → KnownPlacements → Type 0
AreKnown style columns (Cached cells) = ArePlacements style columns cells.now
AreKnown style columns (Uniform uniform) = (column : ℕ) → column < columns.count → IsUniform (style column) uniform
AreKnown style columns (Aligned cells) = (column : ℕ) → column < columns.count → IsUniform (style column) (aligned_in cells column)
AreKnown style columns Styled = Unit {0}

-- a column of a row that `describes` is true of
pub record IsDescribedColumn (describes : RowSheet → Type 0) (column : ℕ) : Type 0 where
  pub row : RowSheet
  pub known : describes row
  pub inside : column < row.columns.count
