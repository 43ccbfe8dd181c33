-- The lines of a cell's text are shown in the picture of its table.
use Rattle.tabled_grid.proofs.Names.{List, Sheet, SpannedConfig, [], ap, arith, cell_at, columns, estimated_heights, fill}
use Rattle.tabled_grid.proofs.Names.{filled_picture, flat_map, frame, get_or, get_or-map-range_with_len, is_empty, length}
use Rattle.tabled_grid.proofs.Names.{length-map-range_with_len, map, picture, range_with_len, replicate, row_line, row_lines, row_of, row_part}
use Rattle.tabled_grid.proofs.Names.{rule, slice_index, style_at, subst, sym, take, ℕ, ◌++◌, ◌+◌, ◌<◌, ◌∙◌, ◌≡◌, ◌≤◌}
use Rattle.std.proofs.Common.{Some, cond, false, length-append, min, ◌-◌, ◌==◌, ◌||◌}
use Rattle.std.proofs.lemmas.Bool.Decides.{nat_tests}
use Rattle.std.proofs.lemmas.List.{append-nil, append_assoc, get_or-append-add, get_or-take, get_or_append_left, length-take, take_all}
use Rattle.std.proofs.lemmas.Option.{slice_get-get_or}
use Rattle.std.specs.Prelude.{slice_get}
use Rattle.tabled_text.specs.Measure.{lines_of}
use Rattle.tabled_text.proofs.Bridge.{some_line}
use Rattle.tabled_base.specs.Cells.{IsInside}
use Rattle.tabled_config.specs.declared.alignment.AlignmentVertical.{AlignmentVertical}
use Rattle.tabled_config.specs.declared.alignment.AlignmentVertical.TheVariants as vertical
use Rattle.tabled_config.specs.declared.spanned.CellStyle.{CellStyle}
use Rattle.tabled_size.specs.Estimates.{needed_height}
use Rattle.tabled_size.specs.Totals.{filled_width, total_height}
use Rattle.tabled_size.proofs.Passing.{height_at, height_ge}
use Rattle.tabled_line.specs.Block.{above_text, block, cell_line, columns_before, fill_above, free_lines, inner_width}
use Rattle.tabled_line.specs.Fill.{indent}
use Rattle.tabled_line.specs.Row.{RowSheet, block_line, cell_piece, left_edge, right_edge}
use Rattle.tabled_line.proofs.Blocks.{block-text}
use Rattle.tabled_line.proofs.Each.{each-rest}
use Rattle.tabled_grid.specs.Shown.{AreShownIn, IsPartOf, shown_lines}
use Rattle.tabled_grid.proofs.Whole.{picture_lines}

-- ---- a text in a line

part-in : {text line : List ℕ} (front back : List ℕ) → IsPartOf text line → IsPartOf text (front ++ (line ++ back))
part-in {text} {line} front back p = record {
  before = front ++ p.before;
  behind = p.behind ++ back;
  parts = ap (λ l. front ++ (l ++ back)) p.parts ∙ regroup front p.before text p.behind back;
}
  where
    regroup : (a b c d e : List ℕ) → a ++ ((b ++ (c ++ d)) ++ e) ≡ (a ++ b) ++ (c ++ (d ++ e))
    regroup a b c d e = simp append_assoc

part-last : {text line : List ℕ} (front : List ℕ) → IsPartOf text line → IsPartOf text (front ++ line)
part-last {text} {line} front p = subst (λ l. IsPartOf text (front ++ l)) (append-nil line) (part-in front [] p)

part-cell_line : (s : CellStyle) (w : ℕ) (text line : List ℕ) → IsPartOf line (cell_line s w text line)
unfolding cell_line
part-cell_line s w text line =
    let before = columns_before s (inner_width s w) text line in
    record { before = indent s.padding.left ++ fill 32 before; behind = _; parts = sym (append_assoc (indent s.padding.left) (fill 32 before) _) }

-- the line at an index of the text, in the line of its block at as many lines below the lines above the text
part-block : (s : CellStyle) (w h k : ℕ) (text : List ℕ) → k < length (lines_of text) → fill_above s h text + k < h
    → IsPartOf (get_or (lines_of text) k []) (get_or (block s w h text) (fill_above s h text + k) [])
part-block s w h k text l m =
    let line = get_or (lines_of text) k [] in
    let a = fill_above s h text in
    let e : a + k - a ≡ k = omega arith in
    subst (λ bs. IsPartOf line bs)
    (sym (block-text s w h text (a + k) line m (omega arith) (subst (λ i. Some line ≡ slice_get (lines_of text) i) (sym e) (sym (slice_get-get_or (lines_of text) k [] l)))))
    (part-cell_line s w text line)

part-row : (row : RowSheet) (index column : ℕ) (text : List ℕ) → column < row.columns.count → IsPartOf text (block_line row index column)
    → IsPartOf text (row_line row index)
unfolding row_line cell_piece
part-row row index column text h p =
    let f = row.columns.frame in
    let n = row.columns.count in
    let rest = flat_map (cell_piece row index) (range_with_len (column + 1) (n - column - 1)) in
    part-in (left_edge f f.left.main) (right_edge f f.right.main)
    (subst (λ bs. IsPartOf text bs) (sym (each-rest (cell_piece row index) column n h))
    (part-in (flat_map (cell_piece row index) (range_with_len 0 column)) rest (part-last _ p)))

-- ---- a row in a picture

-- the lines of a row, in a picture
record HasRow (t : Sheet) (row : ℕ) : Type 0 where
  front : List (List ℕ)
  back : List (List ℕ)
  parts : picture t ≡ front ++ (row_lines (row_of t row) ++ back)

some_cells : (rows count row column : ℕ) → row < rows → column < count → ((rows == 0) || (count == 0)) ≡ false
some_cells rows count row column r c = grind (arith, nat_tests)

has-row : (t : Sheet) (row column : ℕ) → IsInside t.cells row column → HasRow t row
unfolding picture filled_picture row_part
has-row t row column inside =
    let rows = length t.cells in
    let whole = filled_width t.config (columns t.cells) t.widths in
    let margin = (frame t.config).margin in
    let top = replicate margin.top.size (fill margin.top.fill whole) in
    let end = rule t rows ++ replicate margin.bottom.size (fill margin.bottom.fill whole) in
    let above = flat_map (row_part t) (range_with_len 0 row) in
    let below = flat_map (row_part t) (range_with_len (row + 1) (rows - row - 1)) in
    let filled : is_empty t.cells ≡ false = some_cells rows (columns t.cells) row column inside.row_in inside.column_in in
    record {
      front = top ++ (above ++ rule t row);
      back = below ++ end;
      parts = ap (λ b. cond b [] (filled_picture t whole)) filled
          ∙ ap (λ ls. top ++ (ls ++ end)) (each-rest (row_part t) row rows inside.row_in)
          ∙ regroup top above (rule t row) (row_lines (row_of t row)) below end;
    }
  where
    regroup : (a b c d e f : List (List ℕ)) → a ++ ((b ++ ((c ++ d) ++ e)) ++ f) ≡ (a ++ (b ++ c)) ++ (d ++ (e ++ f))
    regroup a b c d e f = simp append_assoc

row-at : (t : Sheet) (row k : ℕ) (p : HasRow t row) → k < slice_index t.heights row
    → get_or (picture t) (length p.front + k) [] ≡ row_line (row_of t row) k
unfolding row_lines
row-at t row k p h =
    let height = slice_index t.heights row in
    let lines = map (row_line (row_of t row)) (range_with_len 0 height) in
    let long : length lines ≡ height = length-map-range_with_len (row_line (row_of t row)) 0 height in
    ap (λ ls. get_or ls (length p.front + k) []) p.parts
    ∙ get_or-append-add p.front (lines ++ p.back) k []
    ∙ get_or_append_left lines p.back [] k (omega arith)
    ∙ get_or-map-range_with_len (row_line (row_of t row)) 0 height k k [] h (omega arith)

row-within : (t : Sheet) (row : ℕ) (p : HasRow t row) → length p.front + slice_index t.heights row ≤ length (picture t)
unfolding row_lines
row-within t row p =
    let height = slice_index t.heights row in
    let lines = map (row_line (row_of t row)) (range_with_len 0 height) in
    omega (
      arith,
      ap length p.parts,
      length-append p.front (lines ++ p.back),
      length-append lines p.back,
      length-map-range_with_len (row_line (row_of t row)) 0 height,
    )

-- ---- a cell in a picture

pub cell_shown : (t : Sheet) (row column : ℕ) → IsInside t.cells row column → AreShownIn (shown_lines t row column) (picture t)
cell_shown t row column inside =
    let text = cell_at t.cells row column in
    let height = slice_index t.heights row in
    let style = style_at t.config row column in
    let above = fill_above style height text in
    let width = slice_index t.widths column in
    let p = has-row t row column inside in
    let within = row-within t row p in
    let count : length (take (height - above) (lines_of text)) ≡ min (height - above) (length (lines_of text)) =
    length-take (height - above) (lines_of text) in
    record {
      top = length p.front + min above height;
      inside = omega arith;
      each = λ k h.
          let fits : above + k < height = omega arith in
          let own : get_or (take (height - above) (lines_of text)) k [] ≡ get_or (lines_of text) k [] =
          get_or-take (height - above) (lines_of text) k [] (omega arith) in
          let at : length p.front + (above + k) ≡ length p.front + min above height + k = omega arith in
          let line = get_or (lines_of text) k [] in
          let shown : IsPartOf line (row_line (row_of t row) (above + k)) =
          part-row (row_of t row) (above + k) column line inside.column_in (part-block style width height k text (omega arith) fits) in
          subst (λ l. IsPartOf l (get_or (picture t) (length p.front + min above height + k) [])) (sym own)
          (subst (λ i. IsPartOf line (get_or (picture t) i [])) at
          (subst (λ l. IsPartOf line l) (sym (row-at t row (above + k) p fits)) shown));
    }

above-le : (a : AlignmentVertical) (n : ℕ) → above_text a n ≤ n
above-le vertical.Top n = omega arith
above-le vertical.Center n = omega arith
above-le vertical.Bottom n = omega arith

-- a row that is as high as a cell needs shows all lines of the cell
pub all_shown : (t : Sheet) (row column : ℕ) → needed_height t.cells t.config row column ≤ slice_index t.heights row
    → shown_lines t row column ≡ lines_of (cell_at t.cells row column)
all_shown t row column h =
    let text = cell_at t.cells row column in
    let height = slice_index t.heights row in
    let style = style_at t.config row column in
    let l = above-le style.vertical (free_lines style height text) in
    take_all (height - fill_above style height text) (lines_of text) (omega arith)

pub whole_cell_shown : (t : Sheet) (row column : ℕ) → IsInside t.cells row column
    → needed_height t.cells t.config row column ≤ slice_index t.heights row → AreShownIn (lines_of (cell_at t.cells row column)) (picture t)
whole_cell_shown t row column inside h =
    subst (λ ls. AreShownIn ls (picture t)) (all_shown t row column h) (cell_shown t row column inside)

-- estimated heights are as high as the cells need
pub estimated_rows : (cells : List (List (List ℕ))) (config : SpannedConfig) (row column : ℕ) → IsInside cells row column
    → needed_height cells config row column ≤ slice_index (estimated_heights cells config) row
estimated_rows cells config row column inside =
    let a = height_at cells config row inside.row_in in
    let g = height_ge cells config row column inside.column_in in
    omega arith

some_inside : (rows count : ℕ) → ((rows == 0) || (count == 0)) ≡ false → (0 < rows) × (0 < count)
some_inside rows count h = (grind (arith, nat_tests), grind (arith, nat_tests))

-- a table with a row and a column and with estimated heights has a line
pub some_line_shown : (t : Sheet) → is_empty t.cells ≡ false → t.heights ≡ estimated_heights t.cells t.config → 0 < total_height t
some_line_shown t filled high =
    let some = some_inside (length t.cells) (columns t.cells) filled in
    let inside : IsInside t.cells 0 0 = record { row_in = some.0; column_in = some.1 } in
    let needs = subst (λ hs. needed_height t.cells t.config 0 0 ≤ slice_index hs 0) (sym high) (estimated_rows t.cells t.config 0 0 inside) in
    let within = (whole_cell_shown t 0 0 inside needs).inside in
    omega (arith, within, some_line (cell_at t.cells 0 0), picture_lines t)
