-- Lines joined one after another.
use Rattle.tabled_set.proofs.Names.{Bool, List, [], ap, append-nil, arith, cond, encode_ascii, encode_utf8_all, false, join_with_byte}
use Rattle.tabled_set.proofs.Names.{length, length-slice_split, line_columns, lines_of, lit<, refl, replicate, suc, suffix_columns, sum_by}
use Rattle.tabled_set.proofs.Names.{sym, true, zero, ℕ, ◌++◌, ◌+◌, ◌==◌, ◌∙◌, ◌∷◌, ◌≡◌}
use Rattle.std.proofs.Common.{append_assoc}

-- what the lines that are left append, where some stand before them or none does
abbrev pub appended : Bool → List (List ℕ) → List ℕ
appended begun [] = []
appended begun (line ∷ lines) = cond begun (10 ∷ []) [] ++ (line ++ appended true lines)

joined-first : (line : List ℕ) (lines : List (List ℕ)) → line ++ appended true lines ≡ join_with_byte 10 (line ∷ lines)
joined-first line [] = append-nil line
joined-first line (next ∷ lines) = ap (λ l. line ++ 10 ∷ l) (joined-first next lines)

pub appended-all : (lines : List (List ℕ)) → appended false lines ≡ join_with_byte 10 lines
appended-all [] = refl
appended-all (line ∷ lines) = joined-first line lines

-- with a line more
pub appended-more : (begun : Bool) (front line : List ℕ) (lines : List (List ℕ)) → front ++ appended begun (line ∷ lines) ≡ ((front ++ cond begun (10 ∷ []) []) ++ line) ++ appended true lines
appended-more begun front line lines =
    let feed : List ℕ = cond begun (10 ∷ []) [] in
    sym (append_assoc (front ++ feed) line (appended true lines) ∙ append_assoc front feed (line ++ appended true lines))

pub copied_feeds : (n : ℕ) → encode_utf8_all (replicate n 10) ≡ replicate n 10
copied_feeds zero = refl
copied_feeds (suc n) =
    ap (λ bytes. bytes ++ encode_utf8_all (replicate n 10)) (encode_ascii 10 (lit< tt))
    ∙ ap (λ bytes. 10 ∷ bytes) (copied_feeds n)

-- the columns of some lines, and one more for each
abbrev pub taken : List (List ℕ) → ℕ
taken lines = sum_by line_columns lines + length lines

-- a column more is left than where each line takes one more
pub left_beside : (suffix : List ℕ) (content_size left : ℕ) → left + taken (lines_of suffix) ≡ content_size → suffix_columns suffix + (left + 1) ≡ content_size
left_beside suffix content_size left h = let some = length-slice_split (λ c. c == 10) suffix in omega (arith, h, some)
