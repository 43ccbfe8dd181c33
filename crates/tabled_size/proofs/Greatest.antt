-- The greatest of the first numbers of a sequence, one number further.
use Rattle.tabled_size.proofs.Names.{List, [], ap, arith, cases_lt, fill_by_all, get_or-map-range_with_len, length}
use Rattle.tabled_size.proofs.Names.{length-map-range_with_len, map, map-range_with_len_more, max, range_with_len, replicate, slice_index}
use Rattle.tabled_size.proofs.Names.{suc, sym, take, zero, ℕ, ⊎_elim, ◌++◌, ◌+◌, ◌<◌, ◌∙◌, ◌∷◌, ◌≡◌, ◌≤◌}
use Rattle.std.proofs.Common.{drop}
use Rattle.std.proofs.lemmas.List.{get_or-replicate, length-replicate}
use Rattle.std.proofs.Math.Seq.{take-append_seam}
use Rattle.tabled_text.specs.Measure.{greatest}

-- the greatest of f 0, .., f (n - 1)
abbrev pub greatest_below : (ℕ → ℕ) → ℕ → ℕ
greatest_below f n = greatest (map f (range_with_len 0 n))

greatest-push : (xs : List ℕ) (y : ℕ) → greatest (xs ++ y ∷ []) ≡ max (greatest xs) y
greatest-push [] y = omega arith
greatest-push (x ∷ xs) y = let e = greatest-push xs y in omega arith

pub greatest_more : (f : ℕ → ℕ) (n : ℕ) → greatest_below f (n + 1) ≡ max (greatest_below f n) (f n)
greatest_more f n =
    ap greatest (map-range_with_len_more f 0 n n (omega arith)) ∙ greatest-push (map f (range_with_len 0 n)) (f n)

pub greatest_step : (f : ℕ → ℕ) (n : ℕ) → greatest_below f (suc n) ≡ max (greatest_below f n) (f n)
greatest_step f n = let e : suc n ≡ n + 1 = omega arith in ap (greatest_below f) e ∙ greatest_more f n

-- none of them is greater
pub greatest_ge : (f : ℕ → ℕ) (n i : ℕ) → i < n → f i ≤ greatest_below f n
greatest_ge f zero i h = absurd (omega arith)
greatest_ge f (suc n) i h =
    let e = greatest_step f n in
    ⊎_elim
    (λ (l : i < n). let g : f i ≤ greatest_below f n = greatest_ge f n i l in omega arith)
    (λ (l : n ≤ i). let s : i ≡ n = omega arith in rw s (omega arith)) (cases_lt i n)

-- what is made by index is the same where each entry is
pub mapped_same : (f g : ℕ → ℕ) (n : ℕ) → ((k : ℕ) → k < n → f k ≡ g k) → map f (range_with_len 0 n) ≡ map g (range_with_len 0 n)
mapped_same f g n h =
    fill_by_all g (map f (range_with_len 0 n)) n 0 (length-map-range_with_len f 0 n)
    (λ k l. get_or-map-range_with_len f 0 n k k 0 l (omega arith) ∙ h k l)

-- nothing yet: zeros
pub greatest_none : (n : ℕ) → replicate {A = ℕ} n 0 ≡ map (λ _. 0) (range_with_len 0 n)
greatest_none n = fill_by_all (λ _. 0) (replicate n 0) n 0 (length-replicate n 0) (λ k l. get_or-replicate n k 0 0 l)

-- what a slice of a whole vector leaves in it
pub written_back : (n : ℕ) (new old : List ℕ) → length new ≡ n → take n (new ++ drop (length new) old) ≡ new
written_back n new old e =
    ap (λ k. take k (new ++ drop (length new) old)) (sym e) ∙ take-append_seam new (drop (length new) old)

-- a list of such numbers, each one number further
pub greatest_each : (f : ℕ → ℕ → ℕ) (xs : List ℕ) (rows n : ℕ) → xs ≡ map
    (λ c. greatest_below (λ r. f r c) rows) (range_with_len 0 n) → map
    (λ c. max (slice_index xs c) (f rows c)) (range_with_len 0 n) ≡ map (λ c. greatest_below (λ r. f r c) (rows + 1)) (range_with_len 0 n)
greatest_each f xs rows n e =
    mapped_same (λ c. max (slice_index xs c) (f rows c)) (λ c. greatest_below (λ r. f r c) (rows + 1)) n
    (λ c l.
    let at : slice_index xs c ≡ greatest_below (λ r. f r c) rows =
    ap (λ ys. slice_index ys c) e ∙ get_or-map-range_with_len (λ c. greatest_below (λ r. f r c) rows) 0 n c c 0 l (omega arith) in
    ap (λ m. max m (f rows c)) at ∙ sym (greatest_more (λ r. f r c) rows))
