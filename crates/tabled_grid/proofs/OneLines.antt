-- The lines of a picture have no line feed, so they are the lines of its text.
use Rattle.tabled_grid.proofs.Names.{All, Bool, HorizontalLine, IsAdditiveConfig, IsAdditiveRule, IsAdditiveStyle, List, Sheet, [], ap, arith, cases_lt}
use Rattle.tabled_grid.proofs.Names.{cell_at, columns, sheet_columns, each-more, fill, flat_map, frame, get_or, length, picture, plain-fill}
use Rattle.tabled_grid.proofs.Names.{plain_rule_line, range_with_len, refl, row_line, row_of, rule_line, slice_index, style_at, subst, suc, sym}
use Rattle.tabled_grid.proofs.Names.{true, zero, ℕ, ⊎_elim, ◌++◌, ◌+◌, ◌<◌, ◌∙◌, ◌∷◌, ◌≡◌, ◌≤◌}
use Rattle.std.proofs.lemmas.Bool.{and_from}
use Rattle.std.proofs.lemmas.Option.{slice_get_cases, slice_get-get_or}
use Rattle.std.proofs.Common.{false, not, ◌-◌, ◌==◌, ◌||◌}
use Rattle.std.specs.List.{list_all}
use Rattle.tabled_text.specs.FramedLines.{is_no_feed}
use Rattle.tabled_text.specs.Measure.{lines_of}
use Rattle.tabled_text.specs.Plain.{IsAdditiveColumn, IsAdditiveLine}
use Rattle.tabled_text.proofs.Bridge.{each_in_lines, lines_of-feedless, lines_of-join, lines_of-splice, splice}
use Rattle.tabled_text.proofs.PlainLines.{plain_column-space, plain_line-lines}
use Rattle.tabled_config.specs.declared.spanned.CellStyle.{CellStyle}
use Rattle.tabled_config.specs.declared.spanned.SpannedConfig.{SpannedConfig}
use Rattle.tabled_config.specs.Frame.{has_bar}
use Rattle.tabled_size.specs.Totals.{total_height}
use Rattle.tabled_line.specs.Block.{block, cell_line, fill_above}
use Rattle.tabled_line.specs.Row.{cell_piece}
use Rattle.tabled_line.proofs.Blocks.{block-above, block-below, block-text}
use Rattle.tabled_line.proofs.Plains.{plain-left, plain-piece, plain-right}
use Rattle.tabled_grid.specs.ApartSheet.{IsApartConfig}
use Rattle.tabled_grid.specs.Picture.{table_text}
use Rattle.tabled_grid.proofs.Whole.{each-line, full_width, picture_lines}

-- a text without a line feed
record IsOneLine (text : List ℕ) : Type 0 where
  lines : lines_of text ≡ text ∷ []

one_line-nil : IsOneLine []
one_line-nil = record { lines = refl }

one_line-append : {front back : List ℕ} → IsOneLine front → IsOneLine back → IsOneLine (front ++ back)
one_line-append {front} {back} p q =
    record { lines = lines_of-splice front back ∙ ap (λ ls. splice ls (lines_of back)) p.lines ∙ ap (splice (front ∷ [])) q.lines }

one_line-plain : {line : List ℕ} {n : ℕ} → IsAdditiveLine line n → IsOneLine line
one_line-plain p = record { lines = plain_line-lines p }

one_line-fill : (c n : ℕ) → IsAdditiveColumn c → IsOneLine (fill c n)
one_line-fill c n h = one_line-plain (plain-fill c n h)

one_line-spaces : (n : ℕ) → IsOneLine (fill 32 n)
one_line-spaces n = one_line-fill 32 n plain_column-space

one_line-each : (f : ℕ → List ℕ) (n : ℕ) → ((i : ℕ) → i < n → IsOneLine (f i)) → IsOneLine (flat_map f (range_with_len 0 n))
one_line-each f zero h = one_line-nil
one_line-each f (suc n) h =
    let e : n + 1 ≡ suc n = omega arith in
    let more = sym (each-more f n) ∙ ap (λ k. flat_map f (range_with_len 0 k)) e in
    subst (λ bs. IsOneLine bs) more (one_line-append (one_line-each f n (λ i l. h i (omega arith))) (h n (omega arith)))

-- ---- lines of a text

feed_or_not : (text : List ℕ) → list_all (λ c. (c == 10) || is_no_feed c) text ≡ true
feed_or_not [] = refl
feed_or_not (c ∷ text) = and_from ((c == 10) || is_no_feed c) _ (either (c == 10)) (feed_or_not text)
  where
    either : (b : Bool) → (b || not b) ≡ true
    either true = refl
    either false = refl

one_line-of_text : (text : List ℕ) (k : ℕ) → k < length (lines_of text) → IsOneLine (get_or (lines_of text) k [])
one_line-of_text text k h =
    record { lines = lines_of-feedless (get_or (lines_of text) k []) (each_in_lines is_no_feed text (feed_or_not text) k [] h) }

one_line-cell_line : (s : CellStyle) (w : ℕ) (text : List ℕ) (j : ℕ) → IsAdditiveStyle s → j < length (lines_of text)
    → IsOneLine (cell_line s w text (get_or (lines_of text) j []))
unfolding cell_line
one_line-cell_line s w text j p l =
    one_line-append (one_line-fill s.padding.left.fill s.padding.left.size p.left)
    (one_line-append (one_line-spaces _)
    (one_line-append (one_line-of_text text j l)
    (one_line-append (one_line-spaces _) (one_line-fill s.padding.right.fill s.padding.right.size p.right))))

-- ---- a line of a block, by its index

one_line-at_text : (s : CellStyle) (w h k : ℕ) (text : List ℕ) → IsAdditiveStyle s → k < h → fill_above s h text ≤ k
    → IsOneLine (get_or (block s w h text) k [])
one_line-at_text s w h k text p l m =
    let P : List ℕ → Type 0 = λ bs. IsOneLine bs in
    let j = k - fill_above s h text in
    ⊎_elim
    (λ x. subst P
    (sym (block-text s w h text k (get_or (lines_of text) j []) l m
    (sym (slice_get-get_or (lines_of text) j [] x.1))))
    (one_line-cell_line s w text j p x.1))
    (λ x. subst P (sym (block-below s w h text k l m (sym x.1))) (one_line-fill s.padding.bottom.fill w p.bottom))
    (slice_get_cases (lines_of text) j).1

one_line-block : (s : CellStyle) (w h k : ℕ) (text : List ℕ) → IsAdditiveStyle s → k < h → IsOneLine (get_or (block s w h text) k [])
one_line-block s w h k text p l =
    let P : List ℕ → Type 0 = λ bs. IsOneLine bs in
    ⊎_elim
    (λ m. subst P (sym (block-above s w h text k l m)) (one_line-fill s.padding.top.fill w p.top))
    (λ m. one_line-at_text s w h k text p l m)
    (cases_lt k (fill_above s h text))

-- ---- lines of a table

module _ (t : Sheet) (p : IsAdditiveConfig t.config (length t.cells) (columns t.cells)) where
  one_line-cells : (row index : ℕ) → row < length t.cells → index < slice_index t.heights row
      → IsOneLine (flat_map (cell_piece (row_of t row) index) (range_with_len 0 (columns t.cells)))
  unfolding cell_piece
  one_line-cells row index l m =
      let f = frame t.config in
      one_line-each (cell_piece (row_of t row) index) (columns t.cells) (λ i k.
      one_line-append (one_line-plain (plain-piece (has_bar f i) f.inner.main p.frame.vertical))
      (one_line-block (style_at t.config row i) (slice_index t.widths i) (slice_index t.heights row) index (cell_at t.cells row i) (p.styles row i l k) m))

  one_line-row : (row index : ℕ) → row < length t.cells → index < slice_index t.heights row → IsOneLine (row_line (row_of t row) index)
  unfolding row_line
  one_line-row row index l m =
      let f = frame t.config in
      one_line-append (one_line-plain (plain-left f f.left.main p.frame.margin_left p.frame.left))
      (one_line-append (one_line-cells row index l m) (one_line-plain (plain-right f f.right.main p.frame.margin_right p.frame.right)))

  one_line-rule : (line : HorizontalLine) → IsAdditiveRule line → IsOneLine (rule_line (sheet_columns t) line)
  one_line-rule line q = one_line-plain (plain_rule_line (sheet_columns t) line p.frame.margin_left p.frame.margin_right q)

  one_lines : All (λ line. IsOneLine line) (picture t)
  one_lines = each-line (λ line. IsOneLine line) t (record {
    row = one_line-row;
    rule = λ i line b e. one_line-rule line (p.rules i b line e);
    margin_top = one_line-fill (frame t.config).margin.top.fill (full_width t) p.frame.margin_top;
    margin_bottom = one_line-fill (frame t.config).margin.bottom.fill (full_width t) p.frame.margin_bottom;
  })

  -- the pieces between the line feeds of a text with lines are the lines of its picture
  pub printed_lines : 0 < total_height t → lines_of (table_text t) ≡ picture t
  printed_lines some =
      lines_of-join (picture t) (omega (arith, picture_lines t)) (λ k d h. ap length (one_lines k d h).lines)

-- settings that separate the cells are additive
pub plain_apart : (config : SpannedConfig) (rows count : ℕ) → IsApartConfig config rows count → IsAdditiveConfig config rows count
plain_apart config rows count p = record {
  frame = record {
    vertical = p.frame.inner;
    left = p.frame.left;
    right = p.frame.right;
    margin_left = p.frame.margin_left.additive;
    margin_right = p.frame.margin_right.additive;
    margin_top = p.margin_top;
    margin_bottom = p.margin_bottom;
  };
  rules = p.rules;
  styles = λ row column r c.
      let style = (p.cells row r).styles column c in
      record { left = style.left.additive; right = style.right.additive; top = style.top.additive; bottom = style.bottom.additive };
}
