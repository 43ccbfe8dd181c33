-- Of private steps: no public call promises this.
-- A row as it is printed.
use Rattle.std.specs.Prelude.{◌≡◌, ℕ, ◌+◌, ◌-◌, ◌*◌, if◌then◌else◌, Bool, false, List, [], ◌++◌, ◌⊎◌, Option, map, Result}
use Rattle.std.specs.Result.{IsErrAnd}
use Rattle.std.specs.List.{range_with_len, slice_index, slice_index_or}
use Rattle.tabled_base.specs.declared.error.TableError.{TableError}
use Rattle.tabled_base.specs.declared.error.TableError.TheVariants.{Memory}
use Rattle.tabled_base.specs.Cells.{lengthened}
use Rattle.tabled_config.specs.declared.alignment.AlignmentVertical.TheVariants.{Top}
use Rattle.tabled_config.specs.declared.compact.CompactConfig.{CompactConfig}
use Rattle.tabled_config.specs.declared.spanned.CellStyle.{CellStyle}
use Rattle.tabled_config.specs.declared.borders.HorizontalLine.{HorizontalLine}
use Rattle.tabled_priority.specs.Sums.{one_if, sum_below}
use Rattle.tabled_line.specs.Leading.{WritesLines}
use Rattle.tabled_line.specs.Row.{ColumnSheet, RowSheet, row_lines, rule_if}
use Rattle.tabled_line.specs.Sent.{Sent}
use Rattle.tabled_table.specs.declared.iter_table.layout.Layout.{Layout}

-- the content width of a column
abbrev pub content_at : Layout → ℕ → ℕ
content_at layout column = slice_index_or layout.contents.items column layout.rest

-- the width of a column, padding included
abbrev pub width_at : Layout → ℕ → ℕ
width_at layout column = content_at layout column + layout.side

-- an empty cell in a further column takes nothing: no content width, no padding, and no vertical
-- line before it
pub record TakesNoMore (layout : Layout) : Type 0 where
  pub rest : layout.rest ≡ 0
  pub side : layout.side ≡ 0
  pub left : layout.style.padding.left.size ≡ 0
  pub right : layout.style.padding.right.size ≡ 0
  pub bar : layout.frame.inner.there ≡ false

-- the total width: all widths, the vertical lines, and the side margins
unfoldable pub layout_total : Layout → ℕ
layout_total layout =
    let f = layout.frame in
    (f.margin.left.size + one_if f.left.there)
    + ((sum_below (width_at layout) layout.count + (layout.count - 1) * one_if f.inner.there) + (one_if f.right.there + f.margin.right.size))

-- all columns
abbrev pub layout_columns : Layout → ColumnSheet
layout_columns layout = record {
  count = layout.count;
  width = slice_index (map (width_at layout) (range_with_len 0 layout.count));
  frame = layout.frame;
}

-- a row of these cells
abbrev pub layout_row : Layout → ℕ → List (List ℕ) → RowSheet
layout_row layout height cells = record {
  columns = layout_columns layout;
  height = height;
  text = λ column. slice_index_or cells column [];
  style = λ _. layout.style;
}

-- the padding and alignment of all cells
abbrev pub compact_style : CompactConfig → CellStyle
compact_style config = record {
  padding = config.padding;
  horizontal = config.alignment_horizontal;
  vertical = Top;
  line_alignment = false;
}

-- the lines of a row of cut cells, below its horizontal line
abbrev pub record_lines : Layout → Option HorizontalLine → ℕ → List (List ℕ) → List (List ℕ)
record_lines layout rule height cells = rule_if (layout_columns layout) rule ++ row_lines (layout_row layout height cells)

-- the horizontal line above the first or a further row
abbrev pub rule_of : Layout → Bool → Option HorizontalLine
rule_of layout first = if first then layout.top else layout.inner

-- a row of cut cells, with the horizontal line above it
pub record CutCells : Type 0 where
  pub layout : Layout
  pub rule : Option HorizontalLine
  pub height : ℕ
  pub cells : List (List ℕ)

-- the lines of such a row: missing cells are empty
abbrev pub cut_lines : CutCells → List (List ℕ)
cut_lines row = record_lines row.layout row.rule row.height (lengthened row.layout.count row.cells)

-- a row of cut cells was written; or an allocation failed before its first byte, or the sink failed
-- in its lines
abbrev pub PutsCut : {R : Type 0} → CutCells → Sent → Bool → Result R TableError → Sent → Bool → Type 0
PutsCut row old begun result new begun' =
    (IsErrAnd result (λ e. e ≡ Memory) × (new ≡ old) × (begun' ≡ begun))
    ⊎ WritesLines old begun result new begun' (cut_lines row)
