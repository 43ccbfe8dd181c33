-- Widths that are alike, and those that fit the widest cells.
use Rattle.tabled_compact.proofs.Names.{IfSome, None, Option, Some, ap, arith, length, slice_index, suc, sum_below, sym, zero, ℕ, ◌*◌, ◌+◌}
use Rattle.tabled_compact.proofs.Names.{◌<◌, ◌∙◌, ◌≡◌, ◌≤◌, List, [], length-map, map, map-append, range_with_len, take, widest_cell, ◌++◌}
use Rattle.tabled_compact.proofs.Names.{◌∷◌}
use Rattle.std.proofs.Common.{Bool, false, refl, true, unwrap_or, max, set, get_or, add-one}
use Rattle.std.specs.Int.{from_bool}
use Rattle.tabled_priority.specs.Sums.{one_if}
use Rattle.tabled_size.specs.Reached.{reached}
use Rattle.tabled_size.proofs.Reaching.{reached_at}
use Rattle.std.proofs.lemmas.List.{get_or-map, take_more}
use Rattle.std.proofs.lemmas.List.FromFn.{map-range_with_len_more}
use Rattle.std.proofs.Math.Seq.{take-suc-set}
use Rattle.tabled_text.specs.Measure.{greatest, text_columns}

-- so many numbers more, each of them the same
pub sum-alike : (f : ℕ → ℕ) (n more w : ℕ) → ((k : ℕ) → n ≤ k → k < n + more → f k ≡ w) → sum_below f (n + more) ≡ sum_below f n + more * w
sum-alike f n zero w h = ap (sum_below f) (let e : n + 0 ≡ n = omega arith in e) ∙ (let e : sum_below f n ≡ sum_below f n + 0 * w = omega arith in e)
sum-alike f n (suc k) w h =
    let step : n + suc k ≡ suc (n + k) = omega arith in
    let so_far = sum-alike f n k w (λ j l m. h j l (omega arith)) in
    let here = h (n + k) (omega arith) (omega arith) in
    ap (sum_below f) step ∙ (let e : sum_below f (n + k) + f (n + k) ≡ sum_below f n + suc k * w = omega arith in e)

pub as_number : (there : Bool) → from_bool there ≡ one_if there
as_number true = refl
as_number false = refl

same-some : {m n : ℕ} → Some m ≡ Some n → m ≡ n
same-some h = cc

-- widths that are all there are alike where a dimension says so
pub alike-or : (f : ℕ → Option ℕ) (count : ℕ) (o : Option ℕ) (r : ℕ) → count ≤ length (reached f count)
    → IfSome o (λ from. (column : ℕ) → from ≤ column → f column ≡ f from) → r ≡ unwrap_or o count
    → (column : ℕ) → r ≤ column → column < count → slice_index (reached f count) column ≡ slice_index (reached f count) r
alike-or f count None r sized alike e column l m = absurd (let h : r ≡ count = e in omega arith)
alike-or f count (Some from) r sized alike e column l m =
    let h : r ≡ from = e in
    let there = reached_at f count column (omega arith) in
    let first = reached_at f count from (omega arith) in
    same-some (sym there ∙ alike column (omega arith) ∙ first) ∙ ap (slice_index (reached f count)) (sym h)

greatest-pushed : (xs : List ℕ) (y : ℕ) → greatest (xs ++ y ∷ []) ≡ max (greatest xs) y
greatest-pushed [] y = omega arith
greatest-pushed (x ∷ xs) y = let e = greatest-pushed xs y in omega arith

-- the widest cell of some rows, one row further
pub widest_cell-next : {T : Type 0} (text : T → List ℕ) (rows : List (List T)) (n column before here after : ℕ)
    → n < length rows
    → before ≡ widest_cell (take n (map (map text) rows)) column
    → here ≡ text_columns (get_or (map text (get_or rows n [])) column [])
    → after ≡ max before here
    → after ≡ widest_cell (take (n + 1) (map (map text) rows)) column
widest_cell-next text rows n column before here after inside known is grown =
    let f : List (List ℕ) → ℕ = λ row. text_columns (get_or row column []) in
    let cells : List (List (List ℕ)) = map (map text) rows in
    let long : n < length cells = omega (arith, length-map rows (map text)) in
    let one : f (get_or cells n []) ≡ here = ap f (get_or-map (map text) rows n [] [] inside) ∙ sym is in
    let more : greatest (map f (take (n + 1) cells)) ≡ max (greatest (map f (take n cells))) (f (get_or cells n [])) =
    ap (λ l. greatest (map f l)) (take_more cells n [] long)
    ∙ ap greatest (map-append f (take n cells) (get_or cells n [] ∷ []))
    ∙ greatest-pushed (map f (take n cells)) (f (get_or cells n [])) in
    omega (arith, more, one, known, grown)

-- what was written at the first places, one place further
pub written-next : (f : ℕ → ℕ) (xs : List ℕ) (n x : ℕ) → n < length xs → take n xs ≡ map f (range_with_len 0 n) → x ≡ f n
    → take (n + 1) (set xs n x) ≡ map f (range_with_len 0 (n + 1))
written-next f xs n x h e is =
    ap (λ k. take k (set xs n x)) (add-one n)
    ∙ take-suc-set xs n x h
    ∙ ap (λ l. l ++ x ∷ []) e
    ∙ ap (λ y. map f (range_with_len 0 n) ++ y ∷ []) is
    ∙ sym (map-range_with_len_more f 0 n n (omega arith))
