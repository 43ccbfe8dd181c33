-- The lines of a fitted table: its cells are texts, so each line takes the total width.
use Rattle.std.proofs.Common.{IsUtf8, List, [], arith, encode_utf8, false, get_or, length, refl, subst, sym, true, ℕ, ◌<◌, ◌∙◌, ◌≡◌}
use Rattle.std.proofs.lemmas.List.{get_or_default}
use Rattle.tabled_text.proofs.Names.{unicode_width}
use Rattle.tabled_text.specs.Measure.{lines_of}
use Rattle.tabled_text.specs.Plain.{IsAdditive, IsAdditiveColumn}
use Rattle.tabled_text.proofs.PlainLines.{plain_line-one, plain_text-line}
use Rattle.tabled_text.proofs.WordLaws.{fits-words}
use Rattle.tabled_base.specs.Cells.{IsRectangular, cell_at, columns}
use Rattle.tabled_size.specs.Holds.{Holds}
use Rattle.tabled_size.specs.Sheet.{Sheet}
use Rattle.tabled_size.specs.TextCells.{AreTexts}
use Rattle.tabled_size.specs.Totals.{total_height, total_width}
use Rattle.tabled_line.specs.Additive.{EachLineTakes}
use Rattle.tabled_set.specs.CellChanges.{AreChanged}
use Rattle.tabled_set.specs.declared.truncate.SuffixLimit.TheVariants.{Cut as CutSuffix}
use Rattle.tabled_set.proofs.ChangingCells.{columns-changed}
use Rattle.tabled_set.proofs.TruncatedTexts.{fits-if_wider}
use Rattle.tabled_grid.specs.ApartSheet.{IsApartConfig}
use Rattle.tabled_grid.specs.Picture.{table_text}
use Rattle.tabled_grid.proofs.ApartPictures.{apart_columns}
use Rattle.tabled_grid.proofs.OneLines.{plain_apart, printed_lines}
use Rattle.tabview_print.specs.Fitted.{mark, narrowing}
use Rattle.tabview_print.specs.declared.layout.Narrowing.{Narrowing}
use Rattle.tabview_print.specs.declared.layout.Narrowing.TheVariants.{Cut, Wrap}

mark_column : IsAdditiveColumn 0x2026
unfolding unicode_width
mark_column = record { character = refl; columns = refl }

mark-is : encode_utf8 0x2026 ≡ mark
unfolding unicode_width
mark-is = refl

mark_additive : IsAdditive mark
mark_additive = subst (λ text. IsAdditive text) mark-is (plain_text-line (plain_line-one 0x2026 mark_column))

narrowed-text : (by : Narrowing) (size : ℕ) (before after : List ℕ) → IsUtf8 before → narrowing by size before after → IsUtf8 after
narrowed-text Wrap size before after u h = (fits-words size before after h).utf8
narrowed-text Cut size before after u h = (fits-if_wider size mark CutSuffix false before after mark_additive tt u h).utf8

-- cells that are narrowed stay rectangular, and texts
module _ (by : Narrowing) (size : ℕ → ℕ → ℕ) (old new : List (List (List ℕ)))
    (changed : AreChanged (λ row column. true) (λ row column. narrowing by (size row column)) old new) (rectangular : IsRectangular old) where
  row-long : (row : ℕ) → row < length new → length (get_or new row []) ≡ columns new
  row-long row r = changed.row_lengths row ∙ rectangular row [] (omega (arith, changed.rows)) ∙ sym (columns-changed changed)

  pub narrowed-rectangular : IsRectangular new
  narrowed-rectangular row d r = subst (λ cells. length cells ≡ columns new) (sym (get_or_default new row d [] r)) (row-long row r)

  narrowed-cell : AreTexts old → (row column : ℕ) → row < length new → column < columns new → IsUtf8 (cell_at new row column)
  narrowed-cell texts row column r c =
      let row_in : row < length old = omega (arith, changed.rows) in
      let column_in : column < columns old = omega (arith, columns-changed changed) in
      let long : length (get_or old row []) ≡ columns old = rectangular row [] row_in in
      narrowed-text by (size row column) (cell_at old row column) (cell_at new row column) (texts row [] row_in column [] (omega arith))
      (changed.cells row column (record { row_in = row_in; column_in = column_in }))

  pub narrowed-texts : AreTexts old → AreTexts new
  narrowed-texts texts row d r column e c =
      let same = get_or_default new row d [] r in
      let c' : column < length (get_or new row []) = subst (λ cells. column < length cells) same c in
      let long = row-long row r in
      subst (λ cells. IsUtf8 (get_or cells column e)) (sym same)
      (subst IsUtf8 (sym (get_or_default (get_or new row []) column e [] c')) (narrowed-cell texts row column r (omega arith)))

pub apart_lines : (t : Sheet) → IsApartConfig t.config (length t.cells) (columns t.cells) → AreTexts t.cells → IsRectangular t.cells → Holds t
    → 0 < total_height t → EachLineTakes (total_width t) (lines_of (table_text t))
apart_lines t apart texts rectangular holds some =
    subst (λ ls. EachLineTakes (total_width t) ls) (sym (printed_lines t (plain_apart t.config (length t.cells) (columns t.cells) apart) some))
    (apart_columns t apart texts rectangular holds)
