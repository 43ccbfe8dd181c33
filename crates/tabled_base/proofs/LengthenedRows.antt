-- Rows that are lengthened to the longest of them.
use Rattle.tabled_base.proofs.Names.{All, All-cons, All-head, All-map, All-nil, All-tail, Global, IsRectangular, List, Vec, [], ap}
use Rattle.tabled_base.proofs.Names.{append_assoc, arith, columns, drop, get_or, length, length-map, lengthened, lengthened_rows, longest}
use Rattle.tabled_base.proofs.Names.{map, map-append, max, refl, replicate, row_texts, sym, take, with_record, ℕ, ◌++◌, ◌+◌, ◌-◌, ◌∙◌, ◌∷◌}
use Rattle.tabled_base.proofs.Names.{◌≡◌, ◌≤◌}
use Rattle.std.proofs.lemmas.List.{replicate-append-replicate, take_at}
use Rattle.tabled_base.proofs.Lengthening.{length-lengthened, rectangular-from_length}

-- no row is longer than the longest
within_longest : (rows : List (List (List ℕ))) → All (λ row. length row ≤ longest rows) rows
within_longest [] = All-nil (λ row. length row ≤ 0)
within_longest (row ∷ rows) =
    All-cons (λ r. length r ≤ longest (row ∷ rows)) row rows (omega arith)
    (λ k d h. let own = within_longest rows k d h in omega arith)

-- a further row may be the longest
longest-more : (rows : List (List (List ℕ))) (row : List (List ℕ)) → longest (rows ++ row ∷ []) ≡ max (longest rows) (length row)
longest-more [] row = omega arith
longest-more (first ∷ rows) row = omega (arith, longest-more rows row)

pub lengthened_rows-rectangular : (rows : List (List (List ℕ))) → IsRectangular (lengthened_rows rows)
lengthened_rows-rectangular rows =
    let n = longest rows in
    rectangular-from_length n (lengthened_rows rows)
    (All-map (λ r. length r ≡ n) (lengthened n) rows
    (λ k d h. let own = within_longest rows k d h in omega (arith, length-lengthened n (get_or rows k d))))

columns-lengthened : (rows : List (List (List ℕ))) → columns (lengthened_rows rows) ≡ longest rows
columns-lengthened [] = refl
columns-lengthened (row ∷ rows) =
    let own = All-head (λ r. length r ≤ longest (row ∷ rows)) row rows (within_longest (row ∷ rows)) in
    omega (arith, length-lengthened (longest (row ∷ rows)) row)

-- lengthened to fewer columns first
lengthened-twice : (m n : ℕ) (row : List (List ℕ)) → length row ≤ n → n ≤ m → lengthened m (lengthened n row) ≡ lengthened m row
lengthened-twice m n row h k =
    let rest : n - length row + (m - length (lengthened n row)) ≡ m - length row = omega (arith, length-lengthened n row) in
    append_assoc row (replicate (n - length row) []) (replicate (m - length (lengthened n row)) [])
    ∙ ap (λ l. row ++ l) (replicate-append-replicate (n - length row) (m - length (lengthened n row)) [] ∙ ap (λ i. replicate i []) rest)

lengthened-all-twice : (m n : ℕ) (rows : List (List (List ℕ))) → All (λ row. length row ≤ n) rows → n ≤ m
    → map (lengthened m) (map (lengthened n) rows) ≡ map (lengthened m) rows
lengthened-all-twice m n [] h k = refl
lengthened-all-twice m n (row ∷ rows) h k =
    ap (λ r. r ∷ map (lengthened m) (map (lengthened n) rows)) (lengthened-twice m n row (All-head (λ r. length r ≤ n) row rows h) k)
    ∙ ap (λ rs. lengthened m row ∷ rs) (lengthened-all-twice m n rows (All-tail (λ r. length r ≤ n) row rows h) k)

-- rows that are added one by one are lengthened as if they came at once
pub lengthened_rows-more : (rows : List (List (List ℕ))) (row : List (List ℕ)) → with_record (lengthened_rows rows) row ≡ lengthened_rows (rows ++ row ∷ [])
lengthened_rows-more rows row =
    let n = longest rows in
    let m = max n (length row) in
    ap (λ k. map (lengthened (max k (length row))) (lengthened_rows rows ++ row ∷ [])) (columns-lengthened rows)
    ∙ map-append (lengthened m) (lengthened_rows rows) (row ∷ [])
    ∙ ap (λ l. l ++ lengthened m row ∷ []) (lengthened-all-twice m n rows (within_longest rows) (omega arith))
    ∙ sym (map-append (lengthened m) rows (row ∷ []))
    ∙ ap (λ k. map (lengthened k) (rows ++ row ∷ [])) (sym (longest-more rows row))

-- the longest of rows of one length has this length
longest-le : (n : ℕ) (rows : List (List (List ℕ))) → All (λ row. length row ≡ n) rows → longest rows ≤ n
longest-le n [] h = omega arith
longest-le n (row ∷ rows) h =
    omega (arith, All-head (λ r. length r ≡ n) row rows h, longest-le n rows (All-tail (λ r. length r ≡ n) row rows h))

-- rows that are equally long are as long as the longest
pub rectangular-longest : (rows : List (List (List ℕ))) → IsRectangular rows → All (λ row. longest rows ≤ length row) rows
rectangular-longest rows h = λ k d l. omega (arith, longest-le (columns rows) rows h, h k d l)

-- rows that were lengthened in their vector
pub written_back : (len n : ℕ) (first reserved new old : List (Vec (List ℕ) Global)) → length first ≡ len
    → row_texts reserved ≡ row_texts first → row_texts new ≡ map (lengthened n) (row_texts reserved)
    → row_texts (take len (new ++ drop (length new) old)) ≡ map (lengthened n) (row_texts first)
written_back len n first reserved new old long same wide =
    let texts : Vec (List ℕ) Global → List (List ℕ) = λ row. map (λ t. t) row.items in
    let many : length new ≡ len = omega (
      arith,
      ap length wide,
      ap length same,
      length-map new texts,
      length-map reserved texts,
      length-map first texts,
      length-map (row_texts reserved) (lengthened n),
      long,
    ) in
    ap row_texts (take_at new (drop (length new) old) len many) ∙ wide ∙ ap (map (lengthened n)) same
