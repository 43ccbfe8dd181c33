-- What is given of a table that was asked for, by what printing it leaves.
use Rattle.tabled_c.proofs.Names.{IsTable, Some, Style, new_config, refl, subst, true, with_style, ℕ, ◌≡◌}
use Rattle.std.proofs.Common.{◌∙◌, List, [], ◌++◌, Bool, Err, Ok, Result, ap, length, ⊎_elim, String, Global, string_bytes}
use Rattle.std.specs.Prelude.{IfErr, IfOk}
use Rattle.std.specs.Str.{IsUtf8}
use Rattle.tabled_base.specs.declared.error.TableError.{TableError}
use Rattle.tabled_records.specs.TextRows.{text_rows}
use Rattle.tabled_base.specs.declared.error.TableError.TheVariants as table
use Rattle.tabled_config.specs.declared.spanned.SpannedConfig.{SpannedConfig}
use Rattle.tabled_grid.specs.Picture.{table_text}
use Rattle.tabled_line.specs.Sent.{Sent}
use Rattle.tabled_size.specs.Sheet.{Sheet, estimated}
use Rattle.tabled.specs.declared.arguments.Plan.{Plan}
use Rattle.tabled.specs.declared.arguments.Plan.TheVariants.{Buffered, Streamed, Wrapped, Shortened}
use Rattle.tabled.specs.Headline.{IsBestOf}
use Rattle.tabled.specs.Planned.{Cells, IsPlannedOf, measured}
use Rattle.tabled.specs.Rendered.{IsRenderedOf, PassesRange, SendsTable}
use Rattle.tabled_c.specs.Asked.{Asks, drawn, settings, with_alignments}
use Rattle.tabled_c.specs.Cells.{IsTextsCause}
use Rattle.tabled_c.specs.Printed.{AreCells, IsCellsCause, IsCellsTable, IsLayoutCause, IsRead, IsTableCause, IsTextTable, IsTextTableCause, unpacked_cells, formatted, whole_table}
use Rattle.tabled_c.specs.Sends.{HasPrinted, IsPrintCause, IsPrintedAs}
use Rattle.tabled_c.specs.declared.error_code.ErrorCode.{ErrorCode}
use Rattle.tabled_c.specs.declared.cells.PackedCells.{PackedCells}
use Rattle.tabled_c.specs.declared.error_code.ErrorCode.TheVariants.{Memory, Range, NoText, NoStyle, NoPlan, Ends, Counts, NoAlignment}
use Rattle.tabled_c.specs.declared.layout.Format.{Format}
use Rattle.tabled_c.specs.declared.layout.Layout.{Layout}
use Rattle.tabled_c.proofs.Styles.{styles_apart}

-- one table of two
pub same_table : (old new : Cells) (config changed : SpannedConfig) → old ≡ new → config ≡ changed → estimated old config ≡ estimated new changed
same_table old new config changed e f = ap (λ k. estimated k config) e ∙ ap (estimated new) f

-- the table of rows whose style was made for as many rows
pub same_format : (old new : Cells) (config : SpannedConfig) (style : Style) (rows : ℕ) (alignments : List ℕ) (format : Format) → old ≡ new
    → config ≡ with_style (with_alignments 0 alignments new_config) style → style ≡ drawn format.header rows format.style → rows ≡ length new
    → estimated old config ≡ formatted new alignments format
same_format old new config style rows alignments format e f g h =
    let styled = with_style (with_alignments 0 alignments new_config) in
    same_table old new config (settings format.style format.header (length new) alignments) e
    (f ∙ ap styled (g ∙ ap (λ n. drawn format.header n format.style) h))

-- what is asked for is measured before it is printed
asked_measured : (plan : Plan) (fit order columns : ℕ) → Asks plan fit order columns → measured plan ≡ plan
asked_measured Buffered fit order columns h = refl
asked_measured Streamed fit order columns h = absurd h
asked_measured (Wrapped n words o) fit order columns h = refl
asked_measured (Shortened n o) fit order columns h = refl

-- what a text in memory was sent
abbrev pub text_sent : List ℕ → Sent
text_sent bytes = record { bytes = Some bytes; failures = 0; grows = true }

pub sends_printed : (plan : Plan) (whole : Sheet) (old new : List ℕ) → old ≡ [] → SendsTable (IsPlannedOf plan whole) (IsBestOf plan whole) (text_sent old) (text_sent new)
    → IsPrintedAs plan whole new
sends_printed plan whole old new none h = record {
  table = h.table;
  is_planned = h.is_planned;
  is_best = h.is_best;
  is_text = h.sends.added ∙ ap (λ (bytes : List ℕ). bytes ++ table_text h.table) none;
}

passed : (T : Type 0) (plan : Plan) (whole : Sheet) (old new : Sent) → IsRenderedOf {T = T} plan whole old (Err table.Range) new
    → PassesRange (IsPlannedOf plan whole) whole
passed T plan whole old new h =
    ⊎_elim (λ m. absurd (let no : table.Range ≡ table.Memory = m.0 in cc))
    (λ r. ⊎_elim (λ passes. passes.2) (λ b. ⊎_elim (λ cause. absurd cause) (λ never. absurd never) b.cause) r.1)
    h

pub passed_range : (T : Type 0) (plan : Plan) (whole : Sheet) (old new : Sent) (error : TableError) → error ≡ table.Range
    → IsRenderedOf {T = T} plan whole old (Err error) new → PassesRange (IsPlannedOf plan whole) whole
passed_range T plan whole old new error is h =
    passed T plan whole old new (subst (λ (e : TableError). IsRenderedOf {T = T} plan whole old (Err e) new) is h)

-- ---- of any layout

-- an error of a layout is one of each table
as_table : (cells : Cells) (layout : Layout) (error : ErrorCode) → IsLayoutCause layout error → IsTableCause cells layout error
as_table cells layout Memory h = absurd h
as_table cells layout Range h = absurd h
as_table cells layout NoText h = h
as_table cells layout NoStyle h = h
as_table cells layout NoPlan h = h
as_table cells layout Ends h = h
as_table cells layout Counts h = h
as_table cells layout NoAlignment h = h

as_cells : (cells : PackedCells) (layout : Layout) (error : ErrorCode) → IsTableCause (unpacked_cells cells layout) layout error → IsCellsCause cells layout error
as_cells cells layout Memory h = h
as_cells cells layout Range h = h
as_cells cells layout NoText h = absurd h
as_cells cells layout NoStyle h = h
as_cells cells layout NoPlan h = h
as_cells cells layout Ends h = absurd h
as_cells cells layout Counts h = absurd h
as_cells cells layout NoAlignment h = h

as_lines : (text : List ℕ) (layout : Layout) (error : ErrorCode) → IsTableCause (text_rows text) layout error → IsTextTableCause text layout error
as_lines text layout Memory h = h
as_lines text layout Range h = h
as_lines text layout NoText h = absurd h
as_lines text layout NoStyle h = h
as_lines text layout NoPlan h = h
as_lines text layout Ends h = h
as_lines text layout Counts h = h
as_lines text layout NoAlignment h = h

pub unread_cells : (cells : PackedCells) (layout : Layout) (error : ErrorCode) → IsLayoutCause layout error → IsCellsCause cells layout error
unread_cells cells layout error h = as_cells cells layout error (as_table (unpacked_cells cells layout) layout error h)

pub unread_lines : (text : List ℕ) (layout : Layout) (error : ErrorCode) → IsLayoutCause layout error → IsTextTableCause text layout error
unread_lines text layout error h = as_lines text layout error (as_table (text_rows text) layout error h)

-- ---- of one that was read

module _ (cells : Cells) (layout : Layout) (format : Format) (read : IsRead layout format) where
  abbrev printed : Sheet
  printed = formatted cells layout.alignments.now format

  -- what is told of the table that was printed is told of the one that was asked for
  moved : (Q : Plan → Sheet → Type 0) → Q (measured format.plan) printed → Q format.plan (whole_table cells layout read.name)
  moved Q q =
      subst (λ (p : Plan). Q p (whole_table cells layout read.name)) (asked_measured format.plan layout.fit layout.order layout.width read.is_asked.asks)
      (subst (λ (s : Style). Q (measured format.plan) (estimated cells (settings s layout.header (length cells) layout.alignments.now))) read.style
      (subst (λ (b : Bool). Q (measured format.plan) (estimated cells (settings format.style b (length cells) layout.alignments.now))) read.header q))

  given : (text : List ℕ) → HasPrinted format.plan printed text → IsTable cells layout text
  given text h =
      let t = moved (λ p whole. IsPrintedAs p whole text) h in
      record {
        name = read.name;
        plan = format.plan;
        asked = read.is_asked;
        table = t.table;
        is_planned = t.is_planned;
        is_best = t.is_best;
        edges = t.is_best.edges (styles_apart read.name layout.header (length cells) layout.alignments.now);
        is_text = t.is_text;
      }

  failed : (error : ErrorCode) → IsPrintCause format.plan printed error → IsTableCause cells layout error
  failed Memory h = (read.name, format.plan, read.is_asked)
  failed Range h = (read.name, format.plan, read.is_asked, moved (λ p whole. PassesRange (IsPlannedOf p whole) whole) h)
  failed _ h = absurd h

  -- an error of the cells
  pub no_texts : (given_cells : PackedCells) (error : ErrorCode) → IsTextsCause given_cells layout.null.now error → IsCellsCause given_cells layout error
  no_texts given_cells Memory h = (read.name, format.plan, read.is_asked)
  no_texts given_cells Range h = absurd h
  no_texts given_cells NoText h = h
  no_texts given_cells NoStyle h = absurd h
  no_texts given_cells NoPlan h = absurd h
  no_texts given_cells Ends h = h
  no_texts given_cells Counts h = absurd h
  no_texts given_cells NoAlignment h = absurd h

  abbrev pub Printed : Result (String Global) ErrorCode → Type 0
  Printed made = IfOk made (λ text. HasPrinted format.plan printed (string_bytes text))

  abbrev pub Failed : Result (String Global) ErrorCode → Type 0
  Failed made = IfErr made (IsPrintCause format.plan printed)

  pub cells_given : (packed : PackedCells) → cells ≡ unpacked_cells packed layout → AreCells packed layout → (made : Result (String Global) ErrorCode) → Printed made
      → IfOk made (λ text. IsCellsTable packed layout (string_bytes text))
  cells_given packed same are (Ok text) h = (are, subst (λ (k : Cells). IsTable k layout (string_bytes text)) same (given (string_bytes text) h))
  cells_given packed same are (Err error) h = tt

  pub cells_failed : (packed : PackedCells) → cells ≡ unpacked_cells packed layout → (made : Result (String Global) ErrorCode) → Failed made
      → IfErr made (IsCellsCause packed layout)
  cells_failed packed same (Ok text) h = tt
  cells_failed packed same (Err error) h =
      as_cells packed layout error (subst (λ (k : Cells). IsTableCause k layout error) same (failed error h))

  pub lines_given : (text : List ℕ) → cells ≡ text_rows text → IsUtf8 text → (made : Result (String Global) ErrorCode) → Printed made
      → IfOk made (λ table. IsTextTable text layout (string_bytes table))
  lines_given text same utf8 (Ok table) h = (utf8, subst (λ (k : Cells). IsTable k layout (string_bytes table)) same (given (string_bytes table) h))
  lines_given text same utf8 (Err error) h = tt

  pub lines_failed : (text : List ℕ) → cells ≡ text_rows text → (made : Result (String Global) ErrorCode) → Failed made
      → IfErr made (IsTextTableCause text layout)
  lines_failed text same (Ok table) h = tt
  lines_failed text same (Err error) h =
      as_lines text layout error (subst (λ (k : Cells). IsTableCause k layout error) same (failed error h))
