-- The lines of a printed table, and the cells that can be read in them.
use Rattle.tabled_table.proofs.Names.{AreTexts, EachLineTakes, Holds, IsApartConfig, IsRectangular}
use Rattle.tabled_table.proofs.Names.{IsUtf8, List, None, Table, [], ap, arith, cell_at, cells_of, columns, cond, estimated_heights}
use Rattle.tabled_table.proofs.Names.{false, heights_of, is_empty, length, lengthened, lines_of, longest, sheet, slice_index, subst, sym}
use Rattle.tabled_table.proofs.Names.{table_text, total_height, total_width, ℕ, ⊎_elim, ◌<◌, ◌∙◌, ◌≡◌, ◌≤◌, ◌⊎◌}
use Rattle.std.proofs.Common.{All, Bool, Err, Ok, OnOk, Result, String, get_or, map, replicate, string_bytes, true, ◌-◌}
use Rattle.std.proofs.lemmas.List.Elements.{All-append, All-map, All-replicate}
use Rattle.std.proofs.lemmas.Str.{IsUtf8-nil, IsUtf8-string_bytes}
use Rattle.std.specs.Borrow.{Bor}
use Rattle.std.specs.declared.alloc.Global.{Global}
use Rattle.tabled_text.proofs.Bridge.{some_line}
use Rattle.tabled_base.specs.Cells.{IsInside, lengthened_rows}
use Rattle.tabled_base.specs.declared.error.TableError.{TableError}
use Rattle.tabled_size.specs.Effective.{effective_sizes}
use Rattle.tabled_size.specs.Estimates.{needed_height}
use Rattle.tabled_size.specs.Totals.{filled_height}
use Rattle.tabled_grid.specs.Picture.{picture}
use Rattle.tabled_grid.specs.Printed.{Prints}
use Rattle.tabled_grid.specs.Shown.{AreShownIn}
use Rattle.tabled_grid.proofs.ApartPictures.{apart_columns}
use Rattle.tabled_grid.proofs.OneLines.{plain_apart, printed_lines}
use Rattle.tabled_grid.proofs.ShownCells.{estimated_rows, some_line_shown, whole_cell_shown}
use Rattle.tabled_grid.proofs.Whole.{picture_columns, picture_lines}
use Rattle.tabled_line.specs.Sent.{Sent}
use Rattle.tabled_table.specs.NewTable.{IsNew}
use Rattle.tabled_table.specs.PrintedLines.{HasTableLines, IsStraight, ShowsCells}
use Rattle.tabled_table.specs.TableSheet.{HasText, IsAdditiveTable}

-- ---- how wide the lines are, and how many

holds-text : (table : Table) → HasText table → 0 < total_height (sheet table) → Holds (sheet table)
holds-text table text some =
    let t = sheet table in
    ⊎_elim
    (λ e. let none : 0 < 0 = subst (λ b. 0 < cond b 0 (filled_height t.config (length t.cells) t.heights)) e some in absurd (omega arith))
    (λ p. p.holds)
    text

pub table_lines : (table : Table) → IsRectangular (cells_of table) → HasText table → IsStraight table → 0 < total_height (sheet table)
    → HasTableLines (sheet table) (table_text (sheet table))
table_lines table r text straight some =
    let t = sheet table in
    let holds = holds-text table text some in
    let plain : IsAdditiveTable table = ⊎_elim (λ a. plain_apart t.config (length t.cells) (columns t.cells) a.0) (λ p. p.0) straight in
    let takes : EachLineTakes (total_width t) (picture t) =
    ⊎_elim (λ a. apart_columns t a.0 a.1 r holds) (λ p. picture_columns t p.0 p.1 r holds) straight in
    let same = printed_lines t plain some in
    record {
      takes = subst (λ ls. EachLineTakes (total_width t) ls) (sym same) takes;
      count = ap length same ∙ picture_lines t;
    }

-- an empty table has no lines
pub empty_lines : (table : Table) → is_empty (cells_of table) ≡ true → IsStraight table → 0 < total_height (sheet table)
    → HasTableLines (sheet table) (table_text (sheet table))
empty_lines table e straight some =
    let t = sheet table in
    let none : 0 < 0 = subst (λ b. 0 < cond b 0 (filled_height t.config (length t.cells) t.heights)) e some in absurd (omega arith)

-- so are those of a table that was written
pub written_lines : {T : Type 0} (table : Table) (estimates : Bool) (old new : Sent) (r : Result T TableError) → IsRectangular (cells_of table)
    → Prints estimates (sheet table) old r new
    → OnOk r (IsStraight table → 0 < total_height (sheet table) → HasTableLines (sheet table) (table_text (sheet table)))
written_lines table estimates old new (Ok x) r p = λ straight some. table_lines table r p.0 straight some
written_lines table estimates old new (Err e) r p = tt

-- ---- what can be read in them

estimates : (table : Table) → heights_of table.dimension ≡ None → (sheet table).heights ≡ estimated_heights (cells_of table) table.config.config
estimates table none =
    let high = estimated_heights (cells_of table) table.config.config in
    ap (λ o. effective_sizes o high (length (cells_of table))) none

-- a cell of a table without stored heights is shown in its picture
cell-shown : (table : Table) (row column : ℕ) → heights_of table.dimension ≡ None → IsInside (cells_of table) row column
    → AreShownIn (lines_of (cell_at (cells_of table) row column)) (picture (sheet table))
cell-shown table row column none inside =
    let t = sheet table in
    whole_cell_shown t row column inside
    (subst (λ hs. needed_height t.cells t.config row column ≤ slice_index hs row) (sym (estimates table none)) (estimated_rows t.cells t.config row column inside))

cell-some : (table : Table) (row column : ℕ) → heights_of table.dimension ≡ None → IsInside (cells_of table) row column → 0 < total_height (sheet table)
cell-some table row column none inside =
    let shown = cell-shown table row column none inside in
    let within = shown.inside in
    omega (arith, within, some_line (cell_at (cells_of table) row column), picture_lines (sheet table))

pub cells_shown : (table : Table) → IsAdditiveTable table → heights_of table.dimension ≡ None → ShowsCells (cells_of table) (table_text (sheet table))
cells_shown table plain none = λ row column inside.
    let t = sheet table in
    subst (λ ls. AreShownIn (lines_of (cell_at t.cells row column)) ls) (sym (printed_lines t plain (cell-some table row column none inside)))
    (cell-shown table row column none inside)

pub text_shows : (table : Table) (text : List ℕ) → text ≡ table_text (sheet table) → IsAdditiveTable table → heights_of table.dimension ≡ None
    → ShowsCells (cells_of table) text
text_shows table text e plain none = subst (λ bs. ShowsCells (cells_of table) bs) (sym e) (cells_shown table plain none)

-- a table with a row and a column has a line, if no heights are stored
pub has_lines : (table : Table) → is_empty (cells_of table) ≡ false → heights_of table.dimension ≡ None → 0 < total_height (sheet table)
has_lines table filled none = some_line_shown (sheet table) filled (estimates table none)

pub apart_is_plain : (table : Table) → IsApartConfig (sheet table).config (length (cells_of table)) (columns (cells_of table)) → IsAdditiveTable table
apart_is_plain table p = plain_apart (sheet table).config (length (cells_of table)) (columns (cells_of table)) p

-- ---- tables made of strings

module _ {A : Type 0} (text : A → List ℕ) (utf8 : (a : A) → IsUtf8 (text a)) where
  texts-row : (count : ℕ) (row : List A) → All IsUtf8 (lengthened count (map text row))
  texts-row count row =
      All-append IsUtf8 (map text row) (replicate (count - length (map text row)) [])
      (All-map IsUtf8 text row (λ k d h. utf8 (get_or row k d)))
      (All-replicate IsUtf8 (count - length (map text row)) [] IsUtf8-nil)

  texts-rows : (cells : List (List A)) → AreTexts (lengthened_rows (map (map text) cells))
  texts-rows cells =
      let rows = map (map text) cells in
      All-map (All IsUtf8) (lengthened (longest rows)) rows
      (All-map (λ row. All IsUtf8 (lengthened (longest rows) row)) (map text) cells (λ k d h. texts-row (longest rows) (get_or cells k d)))

-- strings are texts
pub texts_of_strings : (cells : List (List (String Global))) (table : Table) → IsNew (lengthened_rows (map (map string_bytes) cells)) table
    → AreTexts (cells_of table)
texts_of_strings cells table new = subst AreTexts (sym new.records) (texts-rows string_bytes (λ s. IsUtf8-string_bytes s) cells)

pub texts_of_borrowed : (cells : List (List (Bor (String Global)))) (table : Table)
    → IsNew (lengthened_rows (map (map (λ s. string_bytes s.now)) cells)) table → AreTexts (cells_of table)
texts_of_borrowed cells table new = subst AreTexts (sym new.records) (texts-rows (λ s. string_bytes s.now) (λ s. IsUtf8-string_bytes s.now) cells)
