-- Cells by their ends: one further, all of them, and their rows.
use Rattle.std.proofs.Common.{◌≡◌, ◌∙◌, ◌+◌, ◌-◌, ◌*◌, ◌<◌, ◌≤◌, ℕ, zero, suc, List, [], ◌∷◌, ◌++◌, length, map, take, drop, get_or, min, refl, sym, ap, subst, arith}
use Rattle.std.proofs.Common.{append_assoc, Vec, Global, Bor, Bool, true, false, cond, ◌==◌}
use Rattle.std.specs.List.{All, slice_range}
use Rattle.std.specs.Str.{IsCharBoundary, IsUtf8}
use Rattle.std.proofs.lemmas.List.{map-append, map-id, take-map, drop-map, drop-drop, drop_more, take_min, drop_min, length-drop, length-take}
use Rattle.std.proofs.lemmas.Str.{IsUtf8-between}
use Rattle.tabled_base.specs.Cells.{columns, row_texts, IsRectangular}
use Rattle.tabled_c.specs.Cells.{AreEnds, IsEnd, cell_text, end_of, in_rows, no_value, texts_at}

abbrev pub now : Bor (List ℕ) → List ℕ
now t = t.now

-- ---- one cell further

pub pushed : (null : List ℕ) (items : List (Bor (List ℕ))) (cell : Bor (List ℕ)) (start : ℕ) (text ends : List ℕ) (whole : List (List ℕ)) (i : ℕ) → i < length ends
    → cell.now ≡ cell_text null text start (get_or ends i 0) → map now items ++ texts_at null text start (drop i ends) ≡ whole
    → map now (items ++ cell ∷ []) ++ texts_at null text (end_of start (get_or ends i 0)) (drop (i + 1) ends) ≡ whole
pushed null items cell start text ends whole i h same so =
    let rest = texts_at null text (end_of start (get_or ends i 0)) (drop (i + 1) ends) in
    ap (λ t. t ++ rest) (map-append now items (cell ∷ []))
    ∙ append_assoc (map now items) (cell.now ∷ []) rest
    ∙ ap (λ c. map now items ++ (c ∷ rest)) same
    ∙ sym (ap (λ d. map now items ++ texts_at null text start d) (drop_more ends i 0 h))
    ∙ so

pub later_ends : (start : ℕ) (text ends : List ℕ) (i : ℕ) → i < length ends → AreEnds text start (drop i ends)
    → AreEnds text (end_of start (get_or ends i 0)) (drop (i + 1) ends)
later_ends start text ends i h are = (subst (AreEnds text start) (drop_more ends i 0 h) are).1

pub first_end : (start : ℕ) (text ends : List ℕ) (i : ℕ) → i < length ends → AreEnds text start (drop i ends)
    → IsEnd text start (end_of start (get_or ends i 0))
first_end start text ends i h are = (subst (AreEnds text start) (drop_more ends i 0 h) are).0

pub earlier_ends : (start : ℕ) (text ends : List ℕ) (i : ℕ) → i < length ends → IsEnd text start (end_of start (get_or ends i 0))
    → AreEnds text (end_of start (get_or ends i 0)) (drop (i + 1) ends) → AreEnds text start (drop i ends)
earlier_ends start text ends i h is are = subst (AreEnds text start) (sym (drop_more ends i 0 h)) (is, are)

-- ---- one row further

pub rows_more : (texts : List (Bor (List ℕ))) (start end columns rows k : ℕ) → k < rows → start ≤ length texts → end ≡ min (start + columns) (length texts)
    → in_rows (rows - k) columns (map now (drop start texts))
    ≡ map now (take (end - start) (drop start texts)) ∷ in_rows (rows - (k + 1)) columns (map now (drop end texts))
rows_more texts start end columns rows k below within is =
    let xs = drop start texts in
    let m = rows - (k + 1) in
    let long : length xs ≡ length texts - start = length-drop start texts in
    let count : rows - k ≡ suc m = omega arith in
    let many : end - start ≡ min columns (length xs) = omega arith in
    let far : end ≡ start + min columns (length xs) = omega arith in
    let front : take columns xs ≡ take (end - start) xs = sym (ap (λ n. take n xs) many ∙ take_min columns xs) in
    let rest : drop columns xs ≡ drop end texts =
    sym (ap (λ n. drop n texts) far ∙ sym (drop-drop (min columns (length xs)) start texts) ∙ drop_min columns xs) in
    ap (λ n. in_rows n columns (map now xs)) count
    ∙ ap (λ r. r ∷ in_rows m columns (drop columns (map now xs))) (take-map now columns xs ∙ ap (map now) front)
    ∙ ap (λ d. map now (take (end - start) xs) ∷ in_rows m columns d) (drop-map now columns xs ∙ ap (map now) rest)

pub rows_pushed : (items : List (Vec (List ℕ) Global)) (row : Vec (List ℕ) Global) (first : List (List ℕ)) (rest whole : List (List (List ℕ)))
    → row.items ≡ first → row_texts items ++ (first ∷ rest) ≡ whole → row_texts (items ++ row ∷ []) ++ rest ≡ whole
rows_pushed items row first rest whole same so =
    ap (λ t. t ++ rest) (map-append (λ (r : Vec (List ℕ) Global). map (λ (t : List ℕ). t) r.items) items (row ∷ []))
    ∙ append_assoc (row_texts items) (map (λ (t : List ℕ). t) row.items ∷ []) rest
    ∙ ap (λ r. row_texts items ++ (r ∷ rest)) (map-id row.items ∙ same)
    ∙ so

-- ---- all cells

cell_utf8 : (null text : List ℕ) (start end : ℕ) → IsUtf8 null → IsUtf8 text → IsCharBoundary text start → IsEnd text start (end_of start end) → IsUtf8 (cell_text null text start end)
cell_utf8 null text start end n u b h = by (end == no_value) refl
  where
    by : (t : Bool) → end == no_value ≡ t → IsUtf8 (cond t null (slice_range text start end))
    by true e = n
    by false e =
        let same : end_of start end ≡ end = ap (λ c. cond c start end) e in
        let is : IsEnd text start end = subst (IsEnd text start) same h in IsUtf8-between text start end u is.ordered b is.boundary

pub texts_utf8 : (null : List ℕ) (start : ℕ) (text ends : List ℕ) → IsUtf8 null → IsUtf8 text → IsCharBoundary text start → AreEnds text start ends → All IsUtf8 (texts_at null text start ends)
texts_utf8 null start text [] n u b h k d l = absurd (let never : ⊥ = omega arith in never)
texts_utf8 null start text (e ∷ es) n u b h zero d l = cell_utf8 null text start e n u b h.0
texts_utf8 null start text (e ∷ es) n u b h (suc k) d l = texts_utf8 null (end_of start e) text es n u h.0.boundary h.1 k d (omega arith)

pub texts_count : (null : List ℕ) (start : ℕ) (text ends : List ℕ) → length (texts_at null text start ends) ≡ length ends
texts_count null start text [] = refl
texts_count null start text (e ∷ es) = ap suc (texts_count null (end_of start e) text es)

-- ---- all rows

pub rows_count : (rows count : ℕ) (texts : List (List ℕ)) → length (in_rows rows count texts) ≡ rows
rows_count zero count texts = refl
rows_count (suc rows) count texts = ap suc (rows_count rows count (drop count texts))

part_utf8 : (n : ℕ) (texts : List (List ℕ)) → All IsUtf8 texts → All IsUtf8 (take n texts)
part_utf8 zero texts h k d l = absurd (let never : ⊥ = omega arith in never)
part_utf8 (suc n) [] h k d l = absurd (let never : ⊥ = omega arith in never)
part_utf8 (suc n) (t ∷ ts) h zero d l = h 0 d (omega arith)
part_utf8 (suc n) (t ∷ ts) h (suc k) d l = part_utf8 n ts (λ j e m. h (suc j) e (omega arith)) k d (omega arith)

rest_utf8 : (n : ℕ) (texts : List (List ℕ)) → All IsUtf8 texts → All IsUtf8 (drop n texts)
rest_utf8 zero texts h = h
rest_utf8 (suc n) [] h = h
rest_utf8 (suc n) (t ∷ ts) h = rest_utf8 n ts (λ j e m. h (suc j) e (omega arith))

pub rows_utf8 : (rows count : ℕ) (texts : List (List ℕ)) → All IsUtf8 texts → All (All IsUtf8) (in_rows rows count texts)
rows_utf8 zero count texts h k d l = absurd (let never : ⊥ = omega arith in never)
rows_utf8 (suc rows) count texts h zero d l = part_utf8 count texts h
rows_utf8 (suc rows) count texts h (suc k) d l = rows_utf8 rows count (drop count texts) (rest_utf8 count texts h) k d (omega arith)

pub rows_long : (rows count : ℕ) (texts : List (List ℕ)) → length texts ≡ rows * count → All (λ row. length row ≡ count) (in_rows rows count texts)
rows_long zero count texts h k d l = absurd (let never : ⊥ = omega arith in never)
rows_long (suc rows) count texts h zero d l = let cut = length-take count texts in omega arith
rows_long (suc rows) count texts h (suc k) d l =
    let left = length-drop count texts in rows_long rows count (drop count texts) (omega arith) k d (omega arith)

pub rows_rectangular : (rows count : ℕ) (texts : List (List ℕ)) → length texts ≡ rows * count → IsRectangular (in_rows rows count texts)
rows_rectangular zero count texts h k d l = absurd (let never : ⊥ = omega arith in never)
rows_rectangular (suc rows) count texts h k d l =
    let each = rows_long (suc rows) count texts h in each k d l ∙ sym (each 0 d (omega arith))
