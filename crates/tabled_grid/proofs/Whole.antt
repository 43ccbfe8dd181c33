-- The columns and the lines of a whole picture.
use Rattle.tabled_grid.proofs.Names.{AreAdditive, Bool, EachLineTakes, Holds, HorizontalLine, IsAdditiveConfig, IsRectangular, List, None}
use Rattle.tabled_grid.proofs.Names.{Option, Sheet, Some, [], ap, arith, columns, sheet_columns, each-more, false, fill, filled_height}
use Rattle.tabled_grid.proofs.Names.{filled_picture, filled_width, flat_map, frame, is_empty, is_some, length, length-map-range_with_len}
use Rattle.tabled_grid.proofs.Names.{line_columns, map, one_if, picture, plain-fill, range_with_len, refl, replicate, row_line, row_lines}
use Rattle.tabled_grid.proofs.Names.{row_of, row_part, rule, rule_at, rule_line, slice_index, suc, sum_below, total_width, true, zero, ℕ}
use Rattle.tabled_grid.proofs.Names.{◌++◌, ◌+◌, ◌<◌, ◌∙◌, ◌≡◌, ◌≤◌}
use Rattle.std.proofs.Common.{All, cond, length-append}
use Rattle.std.proofs.lemmas.List.{length-replicate}
use Rattle.std.proofs.lemmas.List.Elements.{All-append, All-cons, All-nil, All-push, All-replicate, All-same}
use Rattle.tabled_size.specs.Totals.{total_height, rules_at, part_height}
use Rattle.tabled_line.specs.Row.{rule_if}
use Rattle.tabled_line.proofs.Each.{map-more}
use Rattle.tabled_grid.proofs.Measuring.{IsPlainSheet, plain-row_line, plain-rule_line}

abbrev Takes : ℕ → List ℕ → Type 0
Takes n line = line_columns line ≡ n

abbrev pub full_width : Sheet → ℕ
full_width t = filled_width t.config (columns t.cells) t.widths

-- what holds of the lines of rows, of the horizontal lines and of the lines of margins
pub record OfParts (P : List ℕ → Type 0) (t : Sheet) : Type 0 where
  pub row : (row index : ℕ) → row < length t.cells → index < slice_index t.heights row → P (row_line (row_of t row) index)
  pub rule : (i : ℕ) (line : HorizontalLine) → i ≤ length t.cells → rule_at t.config (length t.cells) i ≡ Some line → P (rule_line (sheet_columns t) line)
  pub margin_top : P (fill (frame t.config).margin.top.fill (full_width t))
  pub margin_bottom : P (fill (frame t.config).margin.bottom.fill (full_width t))

each-mapped : (P : List ℕ → Type 0) (f : ℕ → List ℕ) (k : ℕ) → ((i : ℕ) → i < k → P (f i)) → All P (map f (range_with_len 0 k))
each-mapped P f zero h = All-nil P
each-mapped P f (suc k) h =
    let e : suc k ≡ k + 1 = omega arith in
    All-same P _ _ (ap (λ m. map f (range_with_len 0 m)) e ∙ map-more f k)
    (All-push P (map f (range_with_len 0 k)) (f k) (each-mapped P f k (λ i l. h i (omega arith))) (h k (omega arith)))

each-flat : (P : List ℕ → Type 0) (f : ℕ → List (List ℕ)) (k : ℕ) → ((i : ℕ) → i < k → All P (f i)) → All P (flat_map f (range_with_len 0 k))
each-flat P f zero h = All-nil P
each-flat P f (suc k) h =
    let e : suc k ≡ k + 1 = omega arith in
    All-same P _ _ (ap (λ m. flat_map f (range_with_len 0 m)) e ∙ each-more f k)
    (All-append P (flat_map f (range_with_len 0 k)) (f k) (each-flat P f k (λ i l. h i (omega arith))) (h k (omega arith)))

module _ (P : List ℕ → Type 0) (t : Sheet) (p : OfParts P t) where
  each-rule_if : (o : Option HorizontalLine) (i : ℕ) → i ≤ length t.cells → rule_at t.config (length t.cells) i ≡ o → All P (rule_if (sheet_columns t) o)
  each-rule_if None i b e = All-nil P
  each-rule_if (Some l) i b e = All-cons P _ [] (p.rule i l b e) (All-nil P)

  each-rule : (i : ℕ) → i ≤ length t.cells → All P (rule t i)
  unfolding rule
  each-rule i b = each-rule_if (rule_at t.config (length t.cells) i) i b refl

  each-row : (row : ℕ) → row < length t.cells → All P (row_part t row)
  unfolding row_part row_lines
  each-row row l =
      All-append P (rule t row) _ (each-rule row (omega arith))
      (each-mapped P (row_line (row_of t row)) (slice_index t.heights row) (λ i m. p.row row i l m))

  each-filled : All P (filled_picture t (full_width t))
  unfolding filled_picture
  each-filled =
      let n = full_width t in
      let margin = (frame t.config).margin in
      let rows = length t.cells in
      All-append P (replicate margin.top.size (fill margin.top.fill n)) _ (All-replicate P margin.top.size (fill margin.top.fill n) p.margin_top)
      (All-append P (flat_map (row_part t) (range_with_len 0 rows)) _ (each-flat P (row_part t) rows (λ i l. each-row i l))
      (All-append P (rule t rows) _ (each-rule rows (omega arith)) (All-replicate P margin.bottom.size (fill margin.bottom.fill n) p.margin_bottom)))

  -- then it holds of all lines of the picture
  pub each-line : All P (picture t)
  unfolding picture
  each-line = elim (is_empty t.cells) as (λ b. All P (cond b [] (filled_picture t (full_width t)))) [ true ↦ All-nil P | false ↦ each-filled ]

either-takes : (b : Bool) (n : ℕ) (ls : List (List ℕ)) → EachLineTakes n ls → EachLineTakes (cond b 0 n) (cond b [] ls)
either-takes true n ls h = All-nil (Takes 0)
either-takes false n ls h = h

-- if the lines of rows, the horizontal lines and those of margins take the table's columns, so do all lines of the picture
pub picture_takes : (t : Sheet) → OfParts (Takes (full_width t)) t → EachLineTakes (total_width t) (picture t)
unfolding picture
picture_takes t p = either-takes (is_empty t.cells) (full_width t) (filled_picture t (full_width t)) (each-filled (Takes (full_width t)) t p)

-- each line of the picture of a plain table that holds its cells takes the table's columns
pub picture_columns : (t : Sheet) → IsAdditiveConfig t.config (length t.cells) (columns t.cells) → AreAdditive t.cells → IsRectangular t.cells → Holds t
    → EachLineTakes (total_width t) (picture t)
picture_columns t config texts rectangular holds =
    let p : IsPlainSheet t = record { config = config; texts = texts; rectangular = rectangular; holds = holds } in
    picture_takes t (record {
      row = λ row i l m. (plain-row_line t row i p l m).columns;
      rule = λ i line b e. (plain-rule_line t line p (config.rules i b line e)).columns;
      margin_top = (plain-fill (frame t.config).margin.top.fill (full_width t) config.frame.margin_top).columns;
      margin_bottom = (plain-fill (frame t.config).margin.bottom.fill (full_width t) config.frame.margin_bottom).columns;
    })

-- ---- how many lines

length-rule_if : (t : Sheet) (o : Option HorizontalLine) → length (rule_if (sheet_columns t) o) ≡ one_if (is_some o)
length-rule_if t None = refl
length-rule_if t (Some l) = refl

length-rule : (t : Sheet) (i : ℕ) → length (rule t i) ≡ rules_at t.config (length t.cells) i
unfolding rule
length-rule t i = length-rule_if t (rule_at t.config (length t.cells) i)

length-row : (t : Sheet) (row : ℕ) → length (row_part t row) ≡ part_height t.config (length t.cells) t.heights row
unfolding row_part row_lines part_height
length-row t row =
    let lines = map (row_line (row_of t row)) (range_with_len 0 (slice_index t.heights row)) in
    length-append (rule t row) lines
    ∙ ap (λ n. n + length lines) (length-rule t row)
    ∙ ap (λ n. rules_at t.config (length t.cells) row + n) (length-map-range_with_len (row_line (row_of t row)) 0 (slice_index t.heights row))

length-flat : (f : ℕ → List (List ℕ)) (w : ℕ → ℕ) (n : ℕ) → ((i : ℕ) → length (f i) ≡ w i) → length (flat_map f (range_with_len 0 n)) ≡ sum_below w n
length-flat f w zero h = refl
length-flat f w (suc n) h =
    let e : suc n ≡ n + 1 = omega arith in
    ap (λ m. length (flat_map f (range_with_len 0 m))) e ∙ ap length (each-more f n)
    ∙ length-append (flat_map f (range_with_len 0 n)) (f n)
    ∙ ap (λ m. m + length (f n)) (length-flat f w n h) ∙ ap (λ m. sum_below w n + m) (h n)

length-filled : (t : Sheet) (n : ℕ) → length (filled_picture t n) ≡ filled_height t.config (length t.cells) t.heights
unfolding filled_picture filled_height
length-filled t n =
    let count = length t.cells in
    let top = replicate t.config.margin.top.size (fill t.config.margin.top.fill n) in
    let bottom = replicate t.config.margin.bottom.size (fill t.config.margin.bottom.fill n) in
    let rows = flat_map (row_part t) (range_with_len 0 count) in
    let last = rule t count in
    let a = length-append top (rows ++ (last ++ bottom)) in
    let b = length-append rows (last ++ bottom) in
    let c = length-append last bottom in
    let d = length-replicate t.config.margin.top.size (fill t.config.margin.top.fill n) in
    let e = length-replicate t.config.margin.bottom.size (fill t.config.margin.bottom.fill n) in
    let f = length-flat (row_part t) (part_height t.config count t.heights) count (length-row t) in
    let g = length-rule t count in
    omega arith

either-length : (b : Bool) (n : ℕ) (ls : List (List ℕ)) → length ls ≡ n → length (cond b [] ls) ≡ cond b 0 n
either-length true n ls h = refl
either-length false n ls h = h

-- the picture has as many lines as the table
pub picture_lines : (t : Sheet) → length (picture t) ≡ total_height t
unfolding picture
picture_lines t =
    let n = filled_width t.config (columns t.cells) t.widths in
    either-length (is_empty t.cells) (filled_height t.config (length t.cells) t.heights) (filled_picture t n) (length-filled t n)
