-- The rows of what is left of a text, where its first cell ends.
use Rattle.tabled_records.proofs.Names.{All-append, All-cons, All-head, All-nil, All-tail, HasNo, List, [], ap, append_assoc, arith}
use Rattle.tabled_records.proofs.Names.{tab_separated, cond, false, length, lines_of, map, refl, slice_split_none, sym, ℕ, ◌++◌, ◌<◌, ◌==◌, ◌∙◌}
use Rattle.tabled_records.proofs.Names.{◌∷◌, ◌≡◌}
use Rattle.std.specs.List.{onto_first}
use Rattle.std.proofs.lemmas.List.Splits.{length-slice_split, slice_split_at}

-- the rows of a text
abbrev pub rows_of : List ℕ → List (List (List ℕ))
rows_of text = map tab_separated (lines_of text)

-- rows with cells before those of the first
abbrev pub prepended : List (List ℕ) → List (List (List ℕ)) → List (List (List ℕ))
prepended cells [] = []
prepended cells (row ∷ rows) = (cells ++ row) ∷ rows

pub prepended-none : (rows : List (List (List ℕ))) → prepended [] rows ≡ rows
prepended-none [] = refl
prepended-none (row ∷ rows) = refl

pub prepended-more : (cells more : List (List ℕ)) (rows : List (List (List ℕ))) → prepended (cells ++ more) rows ≡ prepended cells (prepended more rows)
prepended-more cells more [] = refl
prepended-more cells more (row ∷ rows) = ap (λ r. r ∷ rows) (append_assoc cells more row)

-- lines with a text before the first
abbrev glued : List ℕ → List (List ℕ) → List (List ℕ)
glued text [] = text ∷ []
glued text (line ∷ lines) = (text ++ line) ∷ lines

glued-step : (b : ℕ) (text : List ℕ) (lines : List (List ℕ)) → onto_first b (glued text lines) ≡ glued (b ∷ text) lines
glued-step b text [] = refl
glued-step b text (line ∷ lines) = refl

glued-none : (lines : List (List ℕ)) → 0 < length lines → lines ≡ glued [] lines
glued-none [] h = absurd (omega (arith, h))
glued-none (line ∷ lines) h = refl

some-lines : (text : List ℕ) → 0 < length (lines_of text)
some-lines text = omega (arith, length-slice_split (λ c. c == 10) text)

lines-glued : (text rest : List ℕ) → HasNo 10 text → lines_of (text ++ rest) ≡ glued text (lines_of rest)
lines-glued [] rest h = glued-none (lines_of rest) (some-lines rest)
lines-glued (b ∷ text) rest h =
    ap (λ t. cond t ([] ∷ lines_of (text ++ rest)) (onto_first b (lines_of (text ++ rest)))) (All-head (λ b. (b == 10) ≡ false) b text h)
    ∙ ap (onto_first b) (lines-glued text rest (All-tail (λ b. (b == 10) ≡ false) b text h)) ∙ glued-step b text (lines_of rest)

cells-glued : (cell : List ℕ) (lines : List (List ℕ)) → 0 < length lines → HasNo 9 cell
    → map tab_separated (glued (cell ++ 9 ∷ []) lines) ≡ prepended (cell ∷ []) (map tab_separated lines)
cells-glued cell [] some h = absurd (omega (arith, some))
cells-glued cell (line ∷ lines) some h =
    ap (λ r. r ∷ map tab_separated lines) (ap tab_separated (append_assoc cell (9 ∷ []) line) ∙ slice_split_at (λ b. b == 9) cell 9 line h refl)

-- a tab ends the first cell
pub rows-tab : (cell rest : List ℕ) → HasNo 9 cell → HasNo 10 cell → rows_of (cell ++ 9 ∷ rest) ≡ prepended (cell ∷ []) (rows_of rest)
rows-tab cell rest tabs feeds =
    let front : HasNo 10 (cell ++ 9 ∷ []) =
    All-append (λ b. (b == 10) ≡ false) cell (9 ∷ []) feeds (All-cons (λ b. (b == 10) ≡ false) 9 [] refl (All-nil (λ b. (b == 10) ≡ false))) in
    ap rows_of (sym (append_assoc cell (9 ∷ []) rest)) ∙ ap (map tab_separated) (lines-glued (cell ++ 9 ∷ []) rest front)
    ∙ cells-glued cell (lines_of rest) (some-lines rest) tabs

-- a line feed ends the first row
pub rows-feed : (cell rest : List ℕ) → HasNo 9 cell → HasNo 10 cell → rows_of (cell ++ 10 ∷ rest) ≡ (cell ∷ []) ∷ rows_of rest
rows-feed cell rest tabs feeds =
    ap (map tab_separated) (slice_split_at (λ b. b == 10) cell 10 rest feeds refl)
    ∙ ap (λ row. row ∷ rows_of rest) (slice_split_none (λ b. b == 9) cell tabs)

-- the end ends the last one
pub rows-end : (cell : List ℕ) → HasNo 9 cell → HasNo 10 cell → rows_of cell ≡ (cell ∷ []) ∷ []
rows-end cell tabs feeds =
    ap (map tab_separated) (slice_split_none (λ b. b == 10) cell feeds) ∙ ap (λ row. row ∷ []) (slice_split_none (λ b. b == 9) cell tabs)
