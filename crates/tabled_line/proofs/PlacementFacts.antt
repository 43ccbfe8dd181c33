-- What is kept of where texts stand.
use Rattle.tabled_line.proofs.Names.{AlignmentHorizontal, CellStyle, ColumnSheet, List, ap, arith, get_or, get_or-map-range_with_len, length}
use Rattle.tabled_line.proofs.Names.{length-map-range_with_len, ℕ, ◌<◌, ◌∙◌, ◌≡◌}
use Rattle.tabled_config.specs.declared.alignment.AlignmentHorizontal.TheVariants.{Left}
use Rattle.tabled_line.specs.Placements.{ArePlacements, IsUniform, cell_placement, uniform_of}
use Rattle.tabled_line.specs.declared.placement.Placement.{Placement}
use Rattle.tabled_line.specs.declared.placement.UniformPlacement.{UniformPlacement}

-- as many as columns
pub placements-count : {style : ℕ → CellStyle} {columns : ColumnSheet} {placements : List Placement}
    → ArePlacements style columns placements → length placements ≡ columns.count
placements-count {style} {columns} {placements} are = ap length are.listed ∙ length-map-range_with_len (cell_placement style columns) 0 columns.count

pub known-within : {style : ℕ → CellStyle} {columns : ColumnSheet} {placements : List Placement} {column : ℕ}
    → ArePlacements style columns placements → column < columns.count → column < length placements
known-within are within = omega (arith, placements-count are, within)

-- what is read after the last placement
abbrev pub no_placement : Placement
no_placement = record { before = 0; content_width = 0; horizontal = Left }

-- what is read at a column
pub cell-known : {style : ℕ → CellStyle} {columns : ColumnSheet} {placements : List Placement} {column : ℕ}
    → ArePlacements style columns placements → column < columns.count → get_or placements column no_placement ≡ cell_placement style columns column
cell-known {style} {columns} {placements} {column} are within =
    ap (λ l. get_or l column no_placement) are.listed
    ∙ get_or-map-range_with_len (cell_placement style columns) 0 columns.count column column no_placement within (omega arith)

-- the placement of texts at the left, with the alignment of a style in place of theirs
pub realigned : {style : CellStyle} {uniform : UniformPlacement} {horizontal : AlignmentHorizontal}
    → IsUniform (record style { horizontal = Left }) uniform → horizontal ≡ style.horizontal → IsUniform style (record uniform { horizontal = horizontal })
realigned {style} {uniform} {horizontal} is same = record {
  spaced = is.spaced;
  uniform_is = ap {A = UniformPlacement} (λ u. record u { horizontal = horizontal }) is.uniform_is
      ∙ ap {A = AlignmentHorizontal} (λ h. record (uniform_of style) { horizontal = h }) same;
}
