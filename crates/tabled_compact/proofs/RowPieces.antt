-- The lines of rows that come one by one, and the columns of a row whose cells do.
use Rattle.tabled_compact.proofs.Names.{CompactSheet, List, [], above, ap, append-nil, append_assoc, arith, begun_after, compact_row, false}
use Rattle.tabled_compact.proofs.Names.{flat_map, has_rows, if◌then◌else◌, nat_tests, refl, row_part, rows_lines, suc, sym, true, zero, ℕ}
use Rattle.tabled_compact.proofs.Names.{◌++◌, ◌==◌, ◌∙◌, ◌∷◌, ◌≡◌, Bool, Err, IfOk, IsErrAnd, Ok, OnOk, Result, Sent, Stops, TableError}
use Rattle.tabled_compact.proofs.Names.{Writes, WritesLines, compact_columns, compact_cell, compact_piece, finished, length, length-append}
use Rattle.tabled_compact.proofs.Names.{length-map, map, map-append, min, part_front, range_with_len, right_edge, row_front, slice_index}
use Rattle.tabled_compact.proofs.Names.{stopped-first, subst, ⊎_elim, ◌+◌, ◌-◌, ◌<◌, ◌≤◌}
use Rattle.std.proofs.lemmas.List.Concat.{flat_map-append}
use Rattle.std.proofs.Common.{nat_lt, slice_index_or}
use Rattle.std.proofs.lemmas.Bool.{cases_lt}
use Rattle.std.proofs.lemmas.List.{get_or_append_left, get_or_past, get_or_push}
use Rattle.tabled_compact.specs.CompactCells.{pieces}
use Rattle.tabled_config.specs.declared.alignment.AlignmentHorizontal.{AlignmentHorizontal}
use Rattle.tabled_config.specs.Frame.{has_bar}
use Rattle.tabled_line.specs.Block.{before_text}
use Rattle.tabled_line.specs.Fill.{fill}
use Rattle.tabled_line.specs.Leading.{lines_after}
use Rattle.tabled_line.proofs.Each.{each-first, each-more, each-rest}
use Rattle.tabled_line.proofs.Leading.{lines_after-append}
use Rattle.tabled_config.specs.declared.alignment.AlignmentHorizontal.TheVariants as horizontal

pub not-zero : (k : ℕ) → (suc k == 0) ≡ false
not-zero k = grind (arith, nat_tests)

rows-more : (t : CompactSheet) (rows : List (List (List ℕ))) (row : List (List ℕ))
    → rows_lines t (rows ++ row ∷ []) ≡ rows_lines t rows ++ row_part t (has_rows rows) row
unfolding rows_lines
rows-more t [] row = append-nil (row_part t false row)
rows-more t (x ∷ rows) row =
    let f = row_part t true in
    ap (λ u. row_part t false x ++ u) (flat_map-append f rows (row ∷ []) ∙ ap (λ u. flat_map f rows ++ u) (append-nil (f row)))
    ∙ sym (append_assoc (row_part t false x) (flat_map f rows) (f row))

-- a row that is shown, or not
pub rows_lines-more : (t : CompactSheet) (rows : List (List (List ℕ))) (row : List (List ℕ)) (k : ℕ)
    → rows_lines t (rows ++ (if k == 0 then row ∷ [] else [])) ≡ rows_lines t rows ++ (if k == 0 then row_part t (has_rows rows) row else [])
rows_lines-more t rows row zero = rows-more t rows row
rows_lines-more t rows row (suc k) = rw (not-zero k) (ap (rows_lines t) (append-nil rows) ∙ sym (append-nil (rows_lines t rows)))

pub has_rows-more : {A : Type 0} (rows : List A) (row : A) → has_rows (rows ++ row ∷ []) ≡ true
has_rows-more [] row = refl
has_rows-more (x ∷ rows) row = refl

-- a line was written if a row is shown
pub begun-rows : (t : CompactSheet) (rows : List (List (List ℕ))) → begun_after false (rows_lines t rows) ≡ has_rows rows
unfolding rows_lines row_part
begun-rows t [] = refl
begun-rows t (row ∷ rows) = some (above t false) (compact_row t row) (flat_map (row_part t true) rows)
  where
    some : (ls : List (List ℕ)) (l : List ℕ) (more : List (List ℕ)) → begun_after false ((ls ++ l ∷ []) ++ more) ≡ true
    some [] l more = refl
    some (k ∷ ls) l more = refl

-- ---- the columns of a row

-- cells that come later don't change the columns before them
pieces-before : (t : CompactSheet) (row more : List (List ℕ)) (n : ℕ) → n ≤ length row → pieces t (row ++ more) n ≡ pieces t row n
pieces-before t row more zero h = refl
pieces-before t row more (suc n) h =
    let f : ℕ → List ℕ = λ i. compact_piece t i (slice_index_or (row ++ more) i []) in
    let g : ℕ → List ℕ = λ i. compact_piece t i (slice_index_or row i []) in
    let e : suc n ≡ n + 1 = omega arith in
    let same : f n ≡ g n = ap (compact_piece t n) (get_or_append_left row more [] n (omega arith)) in
    ap (λ k. flat_map f (range_with_len 0 k)) e ∙ each-more f n
    ∙ ap (λ u. u ++ f n) (pieces-before t row more n (omega arith)) ∙ ap (λ u. pieces t row n ++ u) same
    ∙ sym (each-more g n) ∙ ap (λ k. flat_map g (range_with_len 0 k)) (sym e)

-- a cell that came and has a column
one-more : (t : CompactSheet) (row : List (List ℕ)) (text : List ℕ)
    → pieces t (row ++ text ∷ []) (length row + 1) ≡ pieces t row (length row) ++ compact_piece t (length row) text
one-more t row text =
    let f : ℕ → List ℕ = λ i. compact_piece t i (slice_index_or (row ++ text ∷ []) i []) in
    each-more f (length row)
    ∙ ap (λ u. u ++ f (length row)) (pieces-before t row (text ∷ []) (length row) (omega arith))
    ∙ ap (λ u. pieces t row (length row) ++ compact_piece t (length row) u) (get_or_push row text [] (length row) refl)

-- a cell that came: it stands in the next column, if there is one
pieces-more : (t : CompactSheet) (row : List (List ℕ)) (text : List ℕ) (n : ℕ)
    → pieces t (row ++ text ∷ []) (min (length row + 1) n)
    ≡ pieces t row (min (length row) n) ++ (if nat_lt (min (length row) n) n then compact_piece t (min (length row) n) text else [])
pieces-more t row text n =
    ⊎_elim
    (λ (l : length row < n).
    let e : min (length row + 1) n ≡ length row + 1 = omega arith in
    let f : min (length row) n ≡ length row = omega arith in
    let b : nat_lt (length row) n ≡ true = grind (arith, nat_tests) in
    rw (e, f, b) (one-more t row text))
    (λ (l : n ≤ length row).
    let e : min (length row + 1) n ≡ n = omega arith in
    let f : min (length row) n ≡ n = omega arith in
    let b : nat_lt n n ≡ false = grind (arith, nat_tests) in
    rw (e, f, b) (pieces-before t row (text ∷ []) n l ∙ sym (append-nil (pieces t row n))))
    (cases_lt (length row) n)

-- the columns of the cells so far, where one more came
given-more : {A : Type 0} (t : CompactSheet) (text : A → List ℕ) (cells : List A) (cell : A)
    → pieces t (map text (cells ++ cell ∷ [])) (min (length (cells ++ cell ∷ [])) t.count)
    ≡ pieces t (map text cells) (min (length cells) t.count)
    ++ (if nat_lt (min (length cells) t.count) t.count then compact_piece t (min (length cells) t.count) (text cell) else [])
given-more t text cells cell =
    let row = map text cells in
    let long : length (cells ++ cell ∷ []) ≡ length row + 1 = length-append cells (cell ∷ []) ∙ ap (λ n. n + 1) (sym (length-map cells text)) in
    let short : min (length row) t.count ≡ min (length cells) t.count = ap (λ n. min n t.count) (length-map cells text) in
    ap (λ u. pieces t u (min (length (cells ++ cell ∷ [])) t.count)) (map-append text cells (cell ∷ []))
    ∙ ap (λ n. pieces t (row ++ text cell ∷ []) (min n t.count)) long
    ∙ pieces-more t row (text cell) t.count
    ∙ ap (λ n. pieces t row n ++ (if nat_lt n t.count then compact_piece t n (text cell) else [])) short

-- the beginning of a row, and a longer one
longer : (t : CompactSheet) (b : Bool) (row row' : List (List ℕ)) (n n' : ℕ) (next : List ℕ) → pieces t row' n' ≡ pieces t row n ++ next
    → part_front t b row' n' ≡ part_front t b row n ++ next
unfolding part_front row_front
longer t b row row' n n' next e = rw e (simp append_assoc)

-- one column more
pub front-more : (t : CompactSheet) (b : Bool) (row : List (List ℕ)) (n : ℕ)
    → part_front t b row (n + 1) ≡ part_front t b row n ++ compact_piece t n (slice_index_or row n [])
front-more t b row n = longer t b row row n (n + 1) _ (each-more (λ i. compact_piece t i (slice_index_or row i [])) n)

-- one column more, for which no cell came
pub front-missing : (t : CompactSheet) (b : Bool) (row : List (List ℕ)) (from n : ℕ) → from ≡ min (length row) t.count → from ≤ n → n < t.count
    → part_front t b row (n + 1) ≡ part_front t b row n ++ compact_piece t n []
front-missing t b row from n e l m =
    front-more t b row n ∙ ap (λ u. part_front t b row n ++ compact_piece t n u) (get_or_past row n [] (omega arith))

-- one cell more
pub front-given : {A : Type 0} (t : CompactSheet) (b : Bool) (text : A → List ℕ) (cells : List A) (cell : A)
    → part_front t b (map text (cells ++ cell ∷ [])) (min (length (cells ++ cell ∷ [])) t.count)
    ≡ part_front t b (map text cells) (min (length cells) t.count)
    ++ (if nat_lt (min (length cells) t.count) t.count then compact_piece t (min (length cells) t.count) (text cell) else [])
front-given t b text cells cell = longer t b _ _ _ _ _ (given-more t text cells cell)

-- all columns, where nothing stands in those from a column on
pub front-drawn : (t : CompactSheet) (b : Bool) (row : List (List ℕ)) (from n : ℕ) → from ≡ min (length row) t.count → from ≤ n → n ≤ t.count
    → ((k : ℕ) → n ≤ k → k < t.count → compact_piece t k [] ≡ []) → part_front t b row t.count ≡ part_front t b row n
front-drawn t b row from n e l m none =
    let f : ℕ → List ℕ = λ i. compact_piece t i (slice_index_or row i []) in
    let same : pieces t row t.count ≡ pieces t row n =
    each-first f n t.count m (λ k p q. ap (compact_piece t k) (get_or_past row k [] (omega arith)) ∙ none k p q) in
    longer t b row row n t.count [] (same ∙ sym (append-nil (pieces t row n))) ∙ append-nil (part_front t b row n)

-- the text of a row with the lines above it: its beginning with all columns, and the right edge
pub front-whole : (t : CompactSheet) (b : Bool) (row : List (List ℕ))
    → lines_after b (row_part t b row) ≡ part_front t b row t.count ++ (let f = (compact_columns t).frame in right_edge f f.right.main)
unfolding row_part part_front compact_row
front-whole t b row = lines_after-append b (above t b) (compact_row t row ∷ []) ∙ simp (append_assoc, append-nil)

-- what follows its beginning
pub front-rest : (t : CompactSheet) (b : Bool) (row : List (List ℕ)) (n : ℕ) → n ≤ t.count
    → (rest : List ℕ) × (lines_after b (row_part t b row) ≡ part_front t b row n ++ rest)
front-rest t b row n h =
    let f = (compact_columns t).frame in
    let edge = right_edge f f.right.main in
    let g : ℕ → List ℕ = λ i. compact_piece t i (slice_index_or row i []) in
    ⊎_elim
    (λ (l : n < t.count).
    let more = g n ++ flat_map g (range_with_len (n + 1) (t.count - n - 1)) in (
      more ++ edge,
      front-whole t b row ∙ ap (λ u. u ++ edge) (longer t b row row n t.count more (each-rest g n t.count l))
          ∙ append_assoc (part_front t b row n) more edge,
    ))
    (λ (l : t.count ≤ n).
    let e : t.count ≡ n = omega arith in
    (edge, front-whole t b row ∙ ap (λ k. part_front t b row k ++ edge) e))
    (cases_lt n t.count)

no-space : (alignment : AlignmentHorizontal) (c : ℕ) → fill 32 (before_text alignment 0) ++ (fill 32 (0 - before_text alignment 0) ++ fill c 0) ≡ []
no-space horizontal.Left c = refl
no-space horizontal.Center c = refl
no-space horizontal.Right c = refl

-- where no column is free, nothing stands around an empty text
no-spaces : (alignment : AlignmentHorizontal) (c free : ℕ) → free ≡ 0
    → fill 32 (before_text alignment free) ++ (fill 32 (free - before_text alignment free) ++ fill c 0) ≡ []
no-spaces alignment c free h =
    ap (λ n. fill 32 (before_text alignment n) ++ (fill 32 (n - before_text alignment n) ++ fill c 0)) h ∙ no-space alignment c

-- an empty cell without padding takes nothing in a column of no width, behind no vertical line
pub empty-piece : (t : CompactSheet) (k : ℕ) → t.config.padding.left.size ≡ 0 → t.config.padding.right.size ≡ 0
    → slice_index t.widths k ≡ 0 → has_bar (compact_columns t).frame k ≡ false → compact_piece t k [] ≡ []
unfolding compact_piece compact_cell
empty-piece t k left right width bar =
    rw (bar, left, right, width) (no-spaces t.config.alignment_horizontal t.config.padding.right.fill _ (omega arith))

-- ---- the row with the lines above it

begun-part : (t : CompactSheet) (b : Bool) (row : List (List ℕ)) → begun_after b (row_part t b row) ≡ true
unfolding row_part
begun-part t b row = last (above t b)
  where
    last : (ls : List (List ℕ)) → begun_after b (ls ++ compact_row t row ∷ []) ≡ true
    last [] = refl
    last (l ∷ ls) = refl

-- the sink refused in its beginning
pub part-stopped : {T : Type 0} (t : CompactSheet) (b : Bool) (row : List (List ℕ)) (n : ℕ) (a c : Sent) (m : Bool) (r : Result T TableError) (e : TableError)
    → n ≤ t.count → Stops a e c (part_front t b row n) → IsErrAnd r (λ d. d ≡ e) → WritesLines a b r c m (row_part t b row)
part-stopped t b row n a c m (Ok x) e l s i = absurd i
part-stopped t b row n a c m (Err d) e l s i =
    let rest = front-rest t b row n l in
    record { stops = stopped-first {T = Unit {0}} (Err d) e rest.0 s i rest.1 }

-- its text was put
pub part-put : {T : Type 0} (t : CompactSheet) (b : Bool) (row : List (List ℕ)) (a c : Sent) (m : Bool) (r : Result T TableError)
    → Writes a r c (lines_after b (row_part t b row)) → m ≡ true → WritesLines a b r c m (row_part t b row)
part-put t b row a c m (Ok x) p e = record { sends = p; after = e ∙ sym (begun-part t b row) }
part-put t b row a c m (Err d) p e = record { stops = p }

-- the next cell was put
pub given-step : {A : Type 0} (t : CompactSheet) (b : Bool) (text : A → List ℕ) (cells : List A) (cell : A) (a s s' : Sent) (r r' : Result ℕ TableError)
    (k : ℕ) → r ≡ Ok k → k ≡ min (length cells) t.count
    → Writes a r s (part_front t b (map text cells) (min (length cells) t.count))
    → Writes s r' s' (if nat_lt k t.count then compact_piece t k (text cell) else [])
    → Writes a r' s' (part_front t b (map text (cells ++ cell ∷ [])) (min (length (cells ++ cell ∷ [])) t.count))
given-step t b text cells cell a s s' (Ok n) r' k e known put next =
    let P : ℕ → Type 0 = λ m. Writes s r' s' (if nat_lt m t.count then compact_piece t m (text cell) else []) in
    finished s' _ _ r' put (subst P known next) (front-given t b text cells cell)
given-step t b text cells cell a s s' (Err d) r' k e known put next = absurd (cc)

-- the sink refused before it
pub given-skip : {A : Type 0} (t : CompactSheet) (b : Bool) (text : A → List ℕ) (cells : List A) (cell : A) (a s : Sent) (r : Result ℕ TableError)
    (e : TableError) → r ≡ Err e → Writes a r s (part_front t b (map text cells) (min (length cells) t.count))
    → Writes {T = ℕ} a (Err e) s (part_front t b (map text (cells ++ cell ∷ [])) (min (length (cells ++ cell ∷ [])) t.count))
given-skip t b text cells cell a s (Ok n) e h put = absurd (cc)
given-skip t b text cells cell a s (Err d) e h put =
    let same : e ≡ d = cc in stopped-first {T = ℕ} (Err e) d _ put same (front-given t b text cells cell)

-- and the column after it
pub next-step : (r : Result ℕ TableError) (k len more count : ℕ) → k ≡ min len count → more ≡ len + 1 → IfOk r (λ n. n ≡ min (k + 1) count)
    → IfOk r (λ n. n ≡ min more count)
next-step (Ok n) k len more count e m h = omega arith
next-step (Err d) k len more count e m h = tt

pub begun-step : (r r' : Result ℕ TableError) (k : ℕ) (P : Type 0) → r ≡ Ok k → OnOk r P → OnOk r' P
begun-step (Ok n) (Ok m) k P e h = h
begun-step (Ok n) (Err f) k P e h = tt
begun-step (Err d) r' k P e h = absurd (cc)
