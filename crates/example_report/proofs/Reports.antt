-- A wrapped table prints a report.
use Rattle.std.proofs.Common.{List, None, Ok, Result, ap, arith, cond, false, inl, length, not, subst, sym, true, ℕ, ⊎_elim, ◌&&◌, ◌<◌, ◌==◌, ◌∙◌, ◌≡◌}
use Rattle.std.proofs.lemmas.Bool.{and_parts, cases_Bool, eqb-true, not-false}
use Rattle.tabled_base.specs.Cells.{IsInside, columns}
use Rattle.tabled_base.specs.declared.error.TableError.{TableError}
use Rattle.tabled_grid.specs.Picture.{table_text}
use Rattle.tabled_line.specs.Additive.{EachLineTakes}
use Rattle.tabled_set.specs.BestNarrowing.{IsBestWordWrapped}
use Rattle.tabled_set.specs.Promised.{IsWiderThan}
use Rattle.tabled_size.specs.EffectiveTotals.{ReturnsWidth}
use Rattle.tabled_size.specs.Effective.{effective_sizes}
use Rattle.tabled_size.specs.Estimates.{estimated_widths}
use Rattle.tabled_size.specs.Sheet.{Sheet, is_empty}
use Rattle.tabled_size.specs.Stored.{heights_of}
use Rattle.tabled_size.specs.TextCells.{AreTexts}
use Rattle.tabled_size.specs.Totals.{filled_width, total_height, total_width}
use Rattle.tabled_text.specs.Measure.{lines_of}
use Rattle.tabled_table.specs.NewTable.{IsNew}
use Rattle.tabled_table.specs.PrintedLines.{HasTableLines, IsStraight, ShowsCells}
use Rattle.tabled_table.specs.TableSheet.{IsApart, IsAdditiveTable, cells_of, sheet}
use Rattle.tabled_table.specs.declared.table.Table.{Table}
use Rattle.example_report.specs.Report.{IsReport}

-- the total that a call returns is the table's
pub total_is : (t : Sheet) (n : ℕ) → (is_empty t.cells ≡ true → ◌≡◌ {A = Result ℕ TableError} (Ok n) (Ok 0))
    → (is_empty t.cells ≡ false → ReturnsWidth t.config (columns t.cells) t.widths (Ok n)) → n ≡ total_width t
total_is t n empty filled =
    ⊎_elim
    (λ e. let none : n ≡ 0 = cc (empty e) in none ∙ sym (ap (λ b. cond b 0 (filled_width t.config (columns t.cells) t.widths)) e))
    (λ e. (filled e).1 ∙ sym (ap (λ b. cond b 0 (filled_width t.config (columns t.cells) t.widths)) e))
    (cases_Bool (is_empty t.cells))

-- two pairs of numbers that a program found equal
pub same_shape : (a b m n : ℕ) → false ≡ not ((a == m) && (b == n)) → (a ≡ m) × (b ≡ n)
same_shape a b m n h =
    let parts = and_parts (a == m) (b == n) (not-false ((a == m) && (b == n)) (sym h)) in
    (eqb-true a m parts.0, eqb-true b n parts.1)

-- a new table that is too wide has estimated widths
pub wider_new : (rows : List (List (List ℕ))) (table : Table) → IsNew rows table → 80 < total_width (sheet table) → IsWiderThan 80 (sheet table)
wider_new rows table new wider = record {
  estimates = ap (λ o. effective_sizes o (estimated_widths (cells_of table) table.config.config) (columns (cells_of table))) new.widths;
  wider = wider;
}

filled_wide : (t : Sheet) → total_width t ≡ 80 → is_empty t.cells ≡ false
filled_wide t e =
    ⊎_elim
    (λ yes. let none : 0 ≡ 80 = sym (ap (λ b. cond b 0 (filled_width t.config (columns t.cells) t.widths)) yes) ∙ e in absurd (omega arith))
    (λ no. no)
    (cases_Bool (is_empty t.cells))

-- what the calls said of the wrapped table and its text
pub record IsWrapped (before after : Table) (text : List ℕ) : Type 0 where
  pub texts : AreTexts (cells_of after)
  pub best : IsBestWordWrapped (sheet before) (sheet after)
  pub heights : heights_of after.dimension ≡ None
  pub rows : length (cells_of after) ≡ length (cells_of before)
  pub columns : columns (cells_of after) ≡ columns (cells_of before)
  pub apart : IsApart after
  pub total : total_width (sheet after) ≡ 80
  pub printed : text ≡ table_text (sheet after)
  pub lines : IsStraight after → 0 < total_height (sheet after) → HasTableLines (sheet after) text
  pub shows : IsAdditiveTable after → heights_of after.dimension ≡ None → ShowsCells (cells_of after) text

pub reported : (rows : List (List (List ℕ))) (before after : Table) (text : List ℕ) → IsNew rows before → IsWrapped before after text
    → (is_empty (cells_of after) ≡ false → heights_of after.dimension ≡ None → 0 < total_height (sheet after))
    → (IsApart after → IsAdditiveTable after) → IsReport rows text
reported rows before after text new p some plain =
    let lines = p.lines (inl (p.apart, p.texts)) (some (filled_wide (sheet after) p.total) p.heights) in
    subst (λ cells. IsReport cells text) new.records (record {
      wide = subst (λ n. EachLineTakes n (lines_of text)) p.total lines.takes;
      wrapped = sheet after;
      printed = p.printed;
      read = λ row column inside.
          let moved : IsInside (cells_of after) row column =
          record { row_in = subst (λ k. row < k) (sym p.rows) inside.row_in; column_in = subst (λ k. column < k) (sym p.columns) inside.column_in } in
          record { shown = p.shows (plain p.apart) p.heights row column moved; whole = p.best.whole row column inside };
    })
