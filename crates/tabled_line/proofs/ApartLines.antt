-- The columns of the lines of a row with cells of any text.
use Rattle.tabled_line.proofs.Names.{AlignmentHorizontal, Bool, CellStyle, ColumnSheet, Frame, IsAdditiveColumn, IsLine, IsUtf8, List}
use Rattle.tabled_line.proofs.Names.{RowSheet, [], append_assoc, arith, before_text, block, cases_lt, cell_block, cell_line, cell_piece}
use Rattle.tabled_line.proofs.Names.{columns_before, cond, false, fill, fill_above, flat_map, get_or, has_bar, inner_width, left_edge}
use Rattle.tabled_line.proofs.Names.{length, line_columns, line_columns-le, line_total, lines_of, one_if, piece, range_with_len, refl}
use Rattle.tabled_line.proofs.Names.{right_edge, row_line, slice_get-get_or, slice_get_cases, subst, suc, sum_below, sym, text_columns}
use Rattle.tabled_line.proofs.Names.{true, zero, ℕ, ⊎_elim, ◌*◌, ◌++◌, ◌+◌, ◌-◌, ◌<◌, ◌∙◌, ◌≡◌, ◌≤◌}
use Rattle.tabled_text.proofs.PlainLines.{plain_column-space}
use Rattle.tabled_text.specs.FramedLines.{IsFrame, IsSeparatorColumn}
use Rattle.tabled_text.proofs.LineLaws.{frame-one, frame-append, line-one, line-frame, line-each}
use Rattle.tabled_text.proofs.Ends.{
  line-as,
  line-nil,
  frame-nil,
  Opens,
  frame-as,
  BeginsApart,
  Closes,
  begins-frame,
  closes-frame,
  begins-framed,
  begins-one,
  opens-frame,
  opens-append,
  opens-begins,
  opens-one,
  closes-framed,
  line-begins,
  line-closes,
  closes-append,
}
use Rattle.tabled_config.specs.declared.alignment.AlignmentHorizontal.TheVariants as horizontal
use Rattle.tabled_line.specs.Apart.{ArePaddedLeft, HoldsTexts, IsApartRow, IsApartStyle}
use Rattle.tabled_line.proofs.Bars.{bar-before, bar-sum}
use Rattle.tabled_line.proofs.Blocks.{block-above, block-text, block-below}
use Rattle.tabled_line.proofs.Joined.{each-begins, each-closes}

-- ---- frames

separator-space : IsSeparatorColumn 32
separator-space = record { additive = plain_column-space; steady = refl }

frame-fill : (c n : ℕ) → IsSeparatorColumn c → IsFrame (fill c n) n
frame-fill c zero h = frame-nil
frame-fill c (suc n) h = frame-as (frame-append (frame-one c h) (frame-fill c n h)) (omega arith)

frame-piece : (there : Bool) (c : ℕ) → IsSeparatorColumn c → IsFrame (piece there c) (one_if there)
frame-piece true c h = frame-one c h
frame-piece false c h = frame-nil

-- ---- a line of a cell

before-le : (a : AlignmentHorizontal) (n : ℕ) → before_text a n ≤ n
before-le horizontal.Left n = omega arith
before-le horizontal.Center n = omega arith
before-le horizontal.Right n = omega arith

-- a line that its text holds stands in the room
pub columns_before-fits : (s : CellStyle) (room : ℕ) (text line : List ℕ) → line_columns line ≤ text_columns text → text_columns text ≤ room
    → columns_before s room text line + line_columns line ≤ room
columns_before-fits s room text line l m =
    elim s.line_alignment as (λ b. before_text s.horizontal (room - (cond b (line_columns line) (text_columns text))) + line_columns line ≤ room) [
      | true ↦ let h = before-le s.horizontal (room - line_columns line) in omega arith
      | false ↦ let h = before-le s.horizontal (room - text_columns text) in omega arith
    ]

-- a column holds a cell's text and its padding
record IsHeldCell (s : CellStyle) (w : ℕ) (text : List ℕ) : Type 0 where
  style : IsApartStyle s
  utf8 : IsUtf8 text
  fits : text_columns text + (s.padding.left.size + s.padding.right.size) ≤ w

-- a line of a block, which begins apart with a left padding, whatever follows, and ends apart with a right one
record IsBlockLine (s : CellStyle) (w : ℕ) (text : List ℕ) : Type 0 where
  line : IsLine text w
  opens : 0 < s.padding.left.size → Opens text
  closes : 0 < s.padding.right.size → Closes text

block-frame : (s : CellStyle) (w : ℕ) (line : List ℕ) → s.padding.left.size ≤ w → IsFrame line w → IsBlockLine s w line
block-frame s w line le p = record { line = line-frame p; opens = λ z. opens-frame p (omega arith); closes = λ _. closes-frame p }

framed_text : (s : CellStyle) (w a b m : ℕ) (line : List ℕ) → IsApartStyle s → IsLine line m
    → s.padding.left.size + (a + (m + (b + s.padding.right.size))) ≡ w
    → IsBlockLine s w (fill s.padding.left.fill s.padding.left.size ++ (fill 32 a ++ (line ++ (fill 32 b ++ fill s.padding.right.fill s.padding.right.size))))
framed_text s w a b m line style l e =
    let left = frame-fill s.padding.left.fill s.padding.left.size style.left in
    let right = frame-fill s.padding.right.fill s.padding.right.size style.right in
    let indent = frame-fill 32 a separator-space in
    let rest = frame-fill 32 b separator-space in
    let after = line-begins l (line-frame (frame-append rest right)) (begins-frame (frame-append rest right)) in
    let inner = line-closes (line-frame indent) after (closes-frame indent) in
    let ended : 0 < s.padding.right.size → Closes (fill 32 a ++ (line ++ (fill 32 b ++ fill s.padding.right.fill s.padding.right.size))) = λ z.
    closes-deep (fill 32 a) line (fill 32 b ++ fill s.padding.right.fill s.padding.right.size) a m (b + s.padding.right.size) indent l
    (frame-append rest right) (omega arith) in
    record {
      line = line-as (line-closes (line-frame left) inner (closes-frame left)) e;
      opens = λ z. opens-append (fill 32 a ++ (line ++ (fill 32 b ++ fill s.padding.right.fill s.padding.right.size))) left.utf8 (opens-frame left z);
      closes = λ z. closes-append (line-frame left) (closes-frame left) (ended z);
    }
  where
    closes-deep : (front line back : List ℕ) (k m n : ℕ) → IsFrame front k → IsLine line m → IsFrame back n → 0 < n → Closes (front ++ (line ++ back))
    closes-deep front line back k m n p l q some = closes-append (line-frame p) (closes-frame p) (closes-framed l q some)

block-cell_line : (s : CellStyle) (w : ℕ) (text : List ℕ) (j : ℕ) → IsHeldCell s w text → j < length (lines_of text)
    → IsBlockLine s w (cell_line s w text (get_or (lines_of text) j []))
unfolding cell_line
block-cell_line s w text j p l =
    let line = get_or (lines_of text) j [] in
    let le = line_columns-le text j l in
    let fits = p.fits in
    let before = columns_before-fits s (inner_width s w) text line le (omega arith) in
    let room = inner_width s w in
    let indented = columns_before s room text line in
    framed_text s w indented (room - indented - line_columns line) (line_columns line) line p.style (line-each text p.utf8 j l) (omega arith)

-- ---- a line of a block, by where it stands

block-at_text : (s : CellStyle) (w h k : ℕ) (text : List ℕ) → IsHeldCell s w text → k < h → fill_above s h text ≤ k
    → IsBlockLine s w (get_or (block s w h text) k [])
block-at_text s w h k text p l m =
    let P : List ℕ → Type 0 = λ bs. IsBlockLine s w bs in
    let j = k - fill_above s h text in
    ⊎_elim
    (λ x. subst P
    (sym (block-text s w h text k (get_or (lines_of text) j []) l m
    (sym (slice_get-get_or (lines_of text) j [] x.1))))
    (block-cell_line s w text j p x.1))
    (λ x. subst P (sym (block-below s w h text k l m (sym x.1)))
    (block-frame s w _ (let f = p.fits in omega arith) (frame-fill s.padding.bottom.fill w p.style.bottom)))
    (slice_get_cases (lines_of text) j).1

block-line : (s : CellStyle) (w h k : ℕ) (text : List ℕ) → IsHeldCell s w text → k < h → IsBlockLine s w (get_or (block s w h text) k [])
block-line s w h k text p l =
    let P : List ℕ → Type 0 = λ bs. IsBlockLine s w bs in
    ⊎_elim
    (λ m. subst P (sym (block-above s w h text k l m))
    (block-frame s w _ (let f = p.fits in omega arith) (frame-fill s.padding.top.fill w p.style.top)))
    (λ m. block-at_text s w h k text p l m)
    (cases_lt k (fill_above s h text))

-- ---- vertical lines

piece-line : (b : Bool) (c : ℕ) → IsAdditiveColumn c → IsLine (piece b c) (one_if b)
piece-line true c p = line-one c p
piece-line false c p = line-nil

-- a plain character before what begins apart
plain_bar-line : (b : Bool) (c w : ℕ) (line : List ℕ) → IsAdditiveColumn c → BeginsApart line → IsLine line w → IsLine (piece b c ++ line) (one_if b + w)
plain_bar-line b c w line p a l = line-begins (piece-line b c p) l a

plain_bar-begins : (b : Bool) (c : ℕ) (line : List ℕ) → IsAdditiveColumn c → BeginsApart line → BeginsApart (piece b c ++ line)
plain_bar-begins true c line p a = begins-one c line p a
plain_bar-begins false c line p a = a

plain_bar-opens : (b : Bool) (c : ℕ) (line : List ℕ) → IsAdditiveColumn c → Opens line → Opens (piece b c ++ line)
plain_bar-opens true c line p o = opens-one c line p o
plain_bar-opens false c line p o = o

-- a separator before any line
bar-line : (b : Bool) (c w : ℕ) (line : List ℕ) → IsSeparatorColumn c → IsLine line w → IsLine (piece b c ++ line) (one_if b + w)
bar-line b c w line p l = let f = frame-piece b c p in line-closes (line-frame f) l (closes-frame f)

bar-closes : (b : Bool) (c : ℕ) (line : List ℕ) → IsSeparatorColumn c → Closes line → Closes (piece b c ++ line)
bar-closes b c line p z = let f = frame-piece b c p in closes-append (line-frame f) (closes-frame f) z

bar-there : (b : Bool) (c : ℕ) (line : List ℕ) → b ≡ true → IsSeparatorColumn c → BeginsApart (piece b c ++ line)
bar-there true c line h p = begins-framed line (frame-piece true c p) (omega arith)
bar-there false c line h p = cc

-- ---- the cells of a line

-- the columns of the cells and of the vertical lines between them
abbrev cells_total : ColumnSheet → ℕ
cells_total columns = sum_below columns.width columns.count + (columns.count - 1) * one_if columns.frame.inner.there

block_at : (row : RowSheet) (index i : ℕ) → IsApartRow row → HoldsTexts row → index < row.height → i < row.columns.count
    → IsBlockLine (row.style i) (row.columns.width i) (get_or (cell_block row i) index [])
block_at row index i p q m k =
    block-line (row.style i) (row.columns.width i) row.height index (row.text i)
    (record { style = p.cells.styles i k; utf8 = q.texts i k; fits = q.fits i k }) m

-- behind left padding, any plain vertical lines
piece-opens : (row : RowSheet) (index i : ℕ) → IsApartRow row → HoldsTexts row → index < row.height → ArePaddedLeft row.columns.count row.style
    → i < row.columns.count → Opens (cell_piece row index i)
unfolding cell_piece
piece-opens row index i p q m lefts k =
    plain_bar-opens (has_bar row.columns.frame i) row.columns.frame.inner.main _ p.frame.inner ((block_at row index i p q m k).opens (lefts i k))

padded_piece-line : (row : RowSheet) (index i : ℕ) → IsApartRow row → HoldsTexts row → index < row.height → ArePaddedLeft row.columns.count row.style
    → i < row.columns.count → IsLine (cell_piece row index i) (one_if (has_bar row.columns.frame i) + row.columns.width i)
unfolding cell_piece
padded_piece-line row index i p q m lefts k =
    let r = row.columns.frame in
    let b = block_at row index i p q m k in
    plain_bar-line (has_bar r i) r.inner.main (row.columns.width i) _ p.frame.inner (opens-begins (b.opens (lefts i k))) b.line

cells-padded : (row : RowSheet) (index : ℕ) → IsApartRow row → HoldsTexts row → index < row.height → ArePaddedLeft row.columns.count row.style
    → IsLine (flat_map (cell_piece row index) (range_with_len 0 row.columns.count)) (cells_total row.columns)
cells-padded row index p q m lefts =
    let r = row.columns.frame in
    let n = row.columns.count in
    line-as
    (each-begins (cell_piece row index) (λ i. one_if (has_bar r i) + row.columns.width i) n (λ i k. padded_piece-line row index i p q m lefts k)
    (λ i z k. opens-begins (piece-opens row index i p q m lefts k)))
    (bar-sum r row.columns.width n)

-- between separators, any padding
cells-apart : (row : RowSheet) (index : ℕ) → IsApartRow row → HoldsTexts row → index < row.height → IsSeparatorColumn row.columns.frame.inner.main
    → IsLine (flat_map (cell_piece row index) (range_with_len 0 row.columns.count)) (cells_total row.columns)
unfolding cell_piece
cells-apart row index p q m v =
    let n = row.columns.count in
    let r = row.columns.frame in
    let w : ℕ → ℕ = λ i. one_if (has_bar r i) + row.columns.width i in
    let c = r.inner.main in
    let own : (i : ℕ) → i < n → IsLine (cell_piece row index i) (w i) = λ i k.
    bar-line (has_bar r i) c (row.columns.width i) _ v (block_at row index i p q m k).line in
    ⊎_elim
    (λ inner. line-as (each-begins (cell_piece row index) w n own (λ i z k. bar-there (has_bar r i) c _ (bar-before r i z ∙ inner) v))
    (bar-sum r row.columns.width n))
    (λ o. ⊎_elim (cells-padded row index p q m)
    (λ rights. line-as
    (each-closes (cell_piece row index) w n
    (λ i k. record { line = own i k; closes = bar-closes (has_bar r i) c _ v ((block_at row index i p q m k).closes (rights i k)) })).line
    (bar-sum r row.columns.width n))
    o)
    p.cells.gaps

-- ---- lines of a row

frame-left : (r : Frame) (c : ℕ) → IsSeparatorColumn r.margin.left.fill → IsSeparatorColumn c
    → IsFrame (left_edge r c) (r.margin.left.size + one_if r.left.there)
unfolding left_edge
frame-left r c p q = frame-append (frame-fill r.margin.left.fill r.margin.left.size p) (frame-piece r.left.there c q)

line-left : (r : Frame) (c : ℕ) → IsSeparatorColumn r.margin.left.fill → IsAdditiveColumn c
    → IsLine (left_edge r c) (r.margin.left.size + one_if r.left.there)
unfolding left_edge
line-left r c p q = let f = frame-fill r.margin.left.fill r.margin.left.size p in line-closes (line-frame f) (piece-line r.left.there c q) (closes-frame f)

-- the right edge of a line, which begins apart
record IsRightEdge (r : Frame) (c : ℕ) : Type 0 where
  line : IsLine (right_edge r c) (one_if r.right.there + r.margin.right.size)
  begins : BeginsApart (right_edge r c)

edge-right : (r : Frame) (c : ℕ) → IsSeparatorColumn r.margin.right.fill → IsAdditiveColumn c → IsRightEdge r c
unfolding right_edge
edge-right r c p q =
    let f = frame-fill r.margin.right.fill r.margin.right.size p in
    record {
      line = plain_bar-line r.right.there c r.margin.right.size _ q (begins-frame f) (line-frame f);
      begins = plain_bar-begins r.right.there c _ q (begins-frame f);
    }

-- pieces of which the first opens a line, or none, before what begins apart
pieces-begin : (f : ℕ → List ℕ) (n : ℕ) (right : List ℕ) → ((i : ℕ) → i < n → IsUtf8 (f i)) → ((i : ℕ) → i < n → Opens (f i)) → BeginsApart right
    → BeginsApart (flat_map f (range_with_len 0 n) ++ right)
pieces-begin f zero right u o b = b
pieces-begin f (suc n) right u o b =
    let rest = flat_map f (range_with_len 1 n) in
    subst (λ t. BeginsApart t) (sym (append_assoc (f 0) rest right))
    (opens-begins (opens-append (rest ++ right) (u 0 (omega arith)) (o 0 (omega arith))))

-- each line of a row takes the columns of any line over its columns
pub row_line_takes : (row : RowSheet) (index : ℕ) → IsApartRow row → HoldsTexts row → index < row.height
    → line_columns (row_line row index) ≡ line_total row.columns
unfolding row_line line_total
row_line_takes row index p q m =
    let r = row.columns.frame in
    let right = edge-right r r.right.main p.frame.margin_right p.frame.right in
    ⊎_elim
    (λ bars. let f = frame-left r r.left.main p.frame.margin_left bars.0 in
    (line-closes (line-frame f) (line-begins (cells-apart row index p q m bars.1) right.line right.begins) (closes-frame f)).columns)
    (λ lefts. let cells = line-begins (cells-padded row index p q m lefts) right.line right.begins in
    (line-begins (line-left r r.left.main p.frame.margin_left p.frame.left) cells
    (pieces-begin (cell_piece row index) row.columns.count (right_edge r r.right.main) (λ i k. (padded_piece-line row index i p q m lefts k).utf8)
    (λ i k. piece-opens row index i p q m lefts k) right.begins)).columns)
    p.cells.bars
