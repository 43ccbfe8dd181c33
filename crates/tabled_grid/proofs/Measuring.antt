-- The columns of what is made of plain pieces.
use Rattle.tabled_grid.proofs.Names.{AreAdditive, Holds, HorizontalLine, IsAdditiveConfig, IsAdditiveRule, IsAdditiveStyle, IsRectangular, List}
use Rattle.tabled_grid.proofs.Names.{Sheet, [], arith, cases_lt, cell_at, columns, sheet_columns, filled_width, flat_map, frame, get_or}
use Rattle.tabled_grid.proofs.Names.{length, line_columns, line_total, one_if, plain-fill, plain_rule_line, range_with_len, row_line}
use Rattle.tabled_grid.proofs.Names.{row_of, rule_line, slice_index, style_at, subst, sum_below, sym, ℕ, ⊎_elim, ◌+◌, ◌<◌, ◌≡◌, ◌≤◌}
use Rattle.std.proofs.Common.{◌-◌, ◌*◌}
use Rattle.std.proofs.lemmas.Option.{slice_get_cases, slice_get-get_or}
use Rattle.tabled_text.specs.Measure.{lines_of, text_columns}
use Rattle.tabled_text.specs.Plain.{IsAdditive, IsAdditiveLine}
use Rattle.tabled_text.proofs.Bridge.{line_columns-le}
use Rattle.tabled_text.proofs.PlainLines.{additive-plain, plain_line-append, plain_line-as, plain_line-each, plain_column-space}
use Rattle.tabled_config.specs.declared.spanned.CellStyle.{CellStyle}
use Rattle.tabled_config.specs.Frame.{has_bar}
use Rattle.tabled_line.specs.Block.{inner_width, columns_before, cell_line, block, fill_above}
use Rattle.tabled_line.specs.Row.{cell_piece}
use Rattle.tabled_size.specs.PlainCells.{ArePlain}
use Rattle.tabled_line.proofs.Blocks.{block-above, block-text, block-below}
use Rattle.tabled_line.proofs.ApartLines.{columns_before-fits}
use Rattle.tabled_line.proofs.Bars.{bar-sum}
use Rattle.tabled_line.proofs.Plains.{plain-each, plain-left, plain-piece, plain-right}

-- plain cells are additive
pub additive_cells : (cells : List (List (List ℕ))) → ArePlain cells → AreAdditive cells
additive_cells cells h row d within column e inside =
    additive-plain (get_or (get_or cells row d) column e) (h row d within column e inside)

-- what the columns of a picture rest on
pub record IsPlainSheet (t : Sheet) : Type 0 where
  pub config : IsAdditiveConfig t.config (length t.cells) (columns t.cells)
  pub texts : AreAdditive t.cells
  pub rectangular : IsRectangular t.cells
  pub holds : Holds t

plain-cell : (t : Sheet) (row column : ℕ) → IsPlainSheet t → row < length t.cells → column < columns t.cells → IsAdditive (cell_at t.cells row column)
plain-cell t row column p r c =
    let long : length (get_or t.cells row []) ≡ columns t.cells = p.rectangular row [] r in
    p.texts row [] r column [] (omega arith)

-- ---- a line of a cell

-- a column holds a cell's text and its padding
record IsPlainCell (s : CellStyle) (w : ℕ) (text : List ℕ) : Type 0 where
  style : IsAdditiveStyle s
  plain : IsAdditive text
  fits : text_columns text + (s.padding.left.size + s.padding.right.size) ≤ w

plain-cell_line : (s : CellStyle) (w : ℕ) (text : List ℕ) (j : ℕ) → IsPlainCell s w text → j < length (lines_of text)
    → IsAdditiveLine (cell_line s w text (get_or (lines_of text) j [])) w
unfolding cell_line
plain-cell_line s w text j p l =
    let line = get_or (lines_of text) j [] in
    let le = line_columns-le text j l in
    let fits = p.fits in
    let before = columns_before-fits s (inner_width s w) text line le (omega arith) in
    let room = inner_width s w in
    let indented = columns_before s room text line in
    plain_line-as
    (plain_line-append (plain-fill s.padding.left.fill s.padding.left.size p.style.left)
    (plain_line-append (plain-fill 32 indented plain_column-space)
    (plain_line-append (plain_line-each text p.plain j l)
    (plain_line-append (plain-fill 32 (room - indented - line_columns line) plain_column-space)
    (plain-fill s.padding.right.fill s.padding.right.size p.style.right)))))
    (omega arith)

-- ---- a line of a block, by where it stands

plain-at_text : (s : CellStyle) (w h k : ℕ) (text : List ℕ) → IsPlainCell s w text → k < h → fill_above s h text ≤ k
    → IsAdditiveLine (get_or (block s w h text) k []) w
plain-at_text s w h k text p l m =
    let P : List ℕ → Type 0 = λ bs. IsAdditiveLine bs w in
    let j = k - fill_above s h text in
    ⊎_elim
    (λ x. subst P
    (sym (block-text s w h text k (get_or (lines_of text) j []) l m
    (sym (slice_get-get_or (lines_of text) j [] x.1))))
    (plain-cell_line s w text j p x.1))
    (λ x. subst P (sym (block-below s w h text k l m (sym x.1))) (plain-fill s.padding.bottom.fill w p.style.bottom))
    (slice_get_cases (lines_of text) j).1

plain-block : (s : CellStyle) (w h k : ℕ) (text : List ℕ) → IsPlainCell s w text → k < h → IsAdditiveLine (get_or (block s w h text) k []) w
plain-block s w h k text p l =
    let P : List ℕ → Type 0 = λ bs. IsAdditiveLine bs w in
    ⊎_elim
    (λ m. subst P (sym (block-above s w h text k l m)) (plain-fill s.padding.top.fill w p.style.top))
    (λ m. plain-at_text s w h k text p l m)
    (cases_lt k (fill_above s h text))

-- ---- lines of a table

plain-cells : (t : Sheet) (row index : ℕ) → IsPlainSheet t → row < length t.cells → index < slice_index t.heights row
    → IsAdditiveLine (flat_map (cell_piece (row_of t row) index) (range_with_len 0 (columns t.cells)))
    (sum_below (slice_index t.widths) (columns t.cells) + (columns t.cells - 1) * one_if (frame t.config).inner.there)
unfolding cell_piece
plain-cells t row index p l m =
    plain_line-as
    (plain-each (cell_piece (row_of t row) index) (λ i. one_if (has_bar (frame t.config) i) + slice_index t.widths i) (columns t.cells)
    (λ i k. plain_line-append (plain-piece (has_bar (frame t.config) i) (frame t.config).inner.main p.config.frame.vertical)
    (plain-block (style_at t.config row i) (slice_index t.widths i) (slice_index t.heights row) index (cell_at t.cells row i)
    (record { style = p.config.styles row i l k; plain = plain-cell t row i p l k; fits = p.holds row i l k }) m)))
    (bar-sum (frame t.config) (slice_index t.widths) (columns t.cells))

pub plain-row_line : (t : Sheet) (row index : ℕ) → IsPlainSheet t → row < length t.cells → index < slice_index t.heights row
    → IsAdditiveLine (row_line (row_of t row) index) (filled_width t.config (columns t.cells) t.widths)
unfolding row_line filled_width
plain-row_line t row index p l m =
    let f = frame t.config in
    let q = p.config.frame in
    plain_line-append (plain-left f f.left.main q.margin_left q.left)
    (plain_line-append (plain-cells t row index p l m) (plain-right f f.right.main q.margin_right q.right))

pub plain-rule_line : (t : Sheet) (line : HorizontalLine) → IsPlainSheet t → IsAdditiveRule line
    → IsAdditiveLine (rule_line (sheet_columns t) line) (filled_width t.config (columns t.cells) t.widths)
unfolding filled_width line_total
plain-rule_line t line p q = plain_rule_line (sheet_columns t) line p.config.frame.margin_left p.config.frame.margin_right q
