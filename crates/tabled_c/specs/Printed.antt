-- The texts that are returned, and the causes of errors.
use Rattle.std.specs.Prelude.{◌≡◌, ◌⊎◌, ◌<◌, ◌≤◌, ◌^◌, ℕ, ℤ, pos, Bool, List, length}
use Rattle.std.specs.List.{All}
use Rattle.std.specs.Str.{IsUtf8}
use Rattle.tabled_records.specs.TextRows.{text_rows}
use Rattle.tabled_grid.specs.Picture.{picture, table_text}
use Rattle.tabled_line.specs.Additive.{EachLineTakes}
use Rattle.tabled_size.specs.Sheet.{Sheet, estimated}
use Rattle.tabled_size.specs.Totals.{total_width}
use Rattle.tabled_text.specs.Cut.{IsCut}
use Rattle.tabled_text.specs.Measure.{text_columns}
use Rattle.tabled_text.specs.Breaking.{HasFewestLines}
use Rattle.tabled_text.specs.Wrapping.{IsWrapped}
use Rattle.tabled.specs.declared.arguments.Plan.{Plan}
use Rattle.tabled.specs.Headline.{IsBestOf}
use Rattle.tabled.specs.Planned.{Cells, IsPlannedOf}
use Rattle.tabled.specs.Rendered.{PassesRange}
use Rattle.tabled_c.specs.declared.cells.PackedCells.{PackedCells}
use Rattle.tabled_c.specs.declared.error_code.ErrorCode.{ErrorCode}
use Rattle.tabled_c.specs.declared.error_code.ErrorCode.TheVariants.{Memory, Range, NoText, NoStyle, NoPlan, Ends, Counts, NoAlignment}
use Rattle.tabled_c.specs.declared.layout.Format.{Format}
use Rattle.tabled_c.specs.declared.layout.Layout.{Layout}
use Rattle.tabled_c.specs.ReturnsText.{code_of}
use Rattle.tabled_c.specs.Asked.{Asks, IsAlignment, IsCounted, StyleName, settings, style_number, style_of}
use Rattle.tabled_c.specs.Cells.{AreEnds, in_rows, texts_at}

-- ---- what a layout asks for

-- the layout has the numbers of a style, of a plan and of alignments
pub record IsAsked (layout : Layout) (name : StyleName) (plan : Plan) : Type 0 where
  pub named : layout.style ≡ style_number name
  pub asks : Asks plan layout.fit layout.order layout.width
  pub aligned : All IsAlignment layout.alignments.now

-- this style, this plan, and whether there is a header
pub record IsRead (layout : Layout) (format : Format) : Type 0 where
  pub name : StyleName
  pub is_asked : IsAsked layout name format.plan
  pub style : format.style ≡ style_of name
  pub header : format.header ≡ layout.header

-- an error of a layout: no style, no plan, or a number that is no alignment
abbrev pub IsLayoutCause : Layout → ErrorCode → Type 0
IsLayoutCause layout NoStyle = (name : StyleName) → ¬ (layout.style ≡ style_number name)
IsLayoutCause layout NoPlan = (plan : Plan) → ¬ Asks plan layout.fit layout.order layout.width
IsLayoutCause layout NoAlignment = ¬ All IsAlignment layout.alignments.now
IsLayoutCause layout _ = ⊥

-- ---- tables

-- the table of cells in a format, with estimated sizes
abbrev pub formatted : Cells → List ℕ → Format → Sheet
formatted cells alignments format = estimated cells (settings format.style format.header (length cells) alignments)

-- the same in the style of a layout
abbrev pub whole_table : Cells → Layout → StyleName → Sheet
whole_table cells layout name = estimated cells (settings (style_of name) layout.header (length cells) layout.alignments.now)

-- the text of the table that the plan makes, with all properties of `IsBestOf`; each line takes the
-- total width, whatever the cells hold
pub record IsTable (cells : Cells) (layout : Layout) (printed : List ℕ) : Type 0 where
  pub name : StyleName
  pub plan : Plan
  pub asked : IsAsked layout name plan
  pub table : Sheet
  pub is_planned : IsPlannedOf plan (whole_table cells layout name) table
  pub is_best : IsBestOf plan (whole_table cells layout name) table
  pub edges : EachLineTakes (total_width table) (picture table)
  pub is_text : printed ≡ table_text table

-- an error of a table: that of its layout, or with a valid one a total that passes `usize::MAX` or a
-- failed allocation
abbrev pub IsTableCause : Cells → Layout → ErrorCode → Type 0
IsTableCause cells layout Memory = (name : StyleName) × (plan : Plan) × IsAsked layout name plan
IsTableCause cells layout Range =
    (name : StyleName) × (plan : Plan) × IsAsked layout name plan
    × PassesRange (IsPlannedOf plan (whole_table cells layout name)) (whole_table cells layout name)
IsTableCause cells layout error = IsLayoutCause layout error

-- ---- tables of tab-separated rows

abbrev pub IsTextTable : List ℕ → Layout → List ℕ → Type 0
IsTextTable text layout printed = IsUtf8 text × IsTable (text_rows text) layout printed

abbrev pub IsTextTableCause : List ℕ → Layout → ErrorCode → Type 0
IsTextTableCause text layout NoText = ¬ IsUtf8 text
IsTextTableCause text layout error = IsTableCause (text_rows text) layout error

-- ---- tables of cells

-- the texts are UTF-8, the ends are in order, and the counts go together
pub record AreCells (cells : PackedCells) (layout : Layout) : Type 0 where
  pub utf8 : IsUtf8 cells.text.now
  pub null : IsUtf8 layout.null.now
  pub in_order : AreEnds cells.text.now 0 cells.ends.now
  pub counts : IsCounted cells.rows cells.columns (length cells.ends.now) (length layout.alignments.now)

-- the cells, row by row
abbrev pub unpacked_cells : PackedCells → Layout → Cells
unpacked_cells cells layout = in_rows cells.rows cells.columns (texts_at layout.null.now cells.text.now 0 cells.ends.now)

abbrev pub IsCellsTable : PackedCells → Layout → List ℕ → Type 0
IsCellsTable cells layout printed = AreCells cells layout × IsTable (unpacked_cells cells layout) layout printed

abbrev pub IsCellsCause : PackedCells → Layout → ErrorCode → Type 0
IsCellsCause cells layout NoText = (¬ IsUtf8 cells.text.now) ⊎ (¬ IsUtf8 layout.null.now)
IsCellsCause cells layout Ends = ¬ AreEnds cells.text.now 0 cells.ends.now
IsCellsCause cells layout Counts = ¬ IsCounted cells.rows cells.columns (length cells.ends.now) (length layout.alignments.now)
IsCellsCause cells layout error = IsTableCause (unpacked_cells cells layout) layout error

-- ---- texts

-- the causes of errors of a text: bytes that aren't UTF-8, or a failed allocation, which is needed
-- only if `wanted`
abbrev pub IsTextCause : List ℕ → Type 0 → ErrorCode → Type 0
IsTextCause text wanted Memory = IsUtf8 text × wanted
IsTextCause text wanted NoText = ¬ IsUtf8 text
IsTextCause text wanted _ = ⊥

-- a text cut to n columns
abbrev pub IsCutText : ℕ → List ℕ → List ℕ → Type 0
IsCutText columns text cut = IsUtf8 text × IsCut columns text cut

-- a text wrapped to n columns, in the fewest lines
abbrev pub IsWrappedText : ℕ → Bool → List ℕ → List ℕ → Type 0
IsWrappedText columns words text wrapped = IsUtf8 text × IsWrapped columns words text wrapped × HasFewestLines columns words text wrapped

-- the columns of a text, or the cause of an error
abbrev pub IsMeasured : List ℕ → ℤ → Type 0
IsMeasured text answer =
    (IsUtf8 text × (text_columns text < 2 ^ 63) × (answer ≡ pos (text_columns text)))
    ⊎ ((¬ IsUtf8 text × (answer ≡ code_of NoText)) ⊎ (IsUtf8 text × (2 ^ 63 ≤ text_columns text) × (answer ≡ code_of Range)))
