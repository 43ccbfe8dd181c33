-- Which rows are shown when one more is read.
use Rattle.std.proofs.Common.{◌≡◌, ℕ, zero, suc, ◌+◌, ◌-◌, ◌<◌, ◌≤◌, true, false, List, [], ◌∷◌, ◌++◌, Option, Some, None, length, map, take, drop, refl, sym, ap, ◌∙◌, arith, append_assoc, length-append, min}
use Rattle.std.specs.Prelude.{nat_le}
use Rattle.std.proofs.lemmas.Bool.{leb-false, leb-true}
use Rattle.std.proofs.lemmas.List.{append-nil, drop-append-le, drop-drop, length-drop, length-take, take-append-le, take_all}
use Rattle.tabview_read.specs.Selection.{Grows, first, first_count, has_first, last, numbered, shown_rows, waiting, written}

pub Grows-none : {A : Type 0} (xs : List A) → Grows xs xs
Grows-none xs = record { more = []; is = sym (append-nil xs) }

pub Grows-more : {A : Type 0} {xs ys zs : List A} → Grows xs ys → Grows ys zs → Grows xs zs
Grows-more {xs = xs} g h = record { more = g.more ++ h.more; is = h.is ∙ ap (λ l. l ++ h.more) g.is ∙ append_assoc xs g.more h.more }

-- a row with its number, alone
abbrev one : {A : Type 0} → A → ℕ → List (ℕ × A)
one row n = (n, row) ∷ []

numbered-append : {A : Type 0} (n : ℕ) (rows : List A) (row : A) → numbered n (rows ++ row ∷ []) ≡ numbered n rows ++ (n + length rows, row) ∷ []
numbered-append n [] row = let e : n ≡ n + 0 = omega arith in ap (one row) e
numbered-append n (r ∷ rows) row =
    let e : n + 1 + length rows ≡ n + length (r ∷ rows) = omega arith in
    ap (λ l. (n, r) ∷ l) (numbered-append (n + 1) rows row ∙ ap (λ k. numbered (n + 1) rows ++ one row k) e)

length-numbered : {A : Type 0} (n : ℕ) (rows : List A) → length (numbered n rows) ≡ length rows
length-numbered n [] = refl
length-numbered n (row ∷ rows) = let h = length-numbered (n + 1) rows in omega arith

one_more : {A : Type 0} (rows : List A) (row : A) → numbered 1 (rows ++ row ∷ []) ≡ numbered 1 rows ++ (length rows + 1, row) ∷ []
one_more rows row = let e : 1 + length rows ≡ length rows + 1 = omega arith in numbered-append 1 rows row ∙ ap (λ k. numbered 1 rows ++ one row k) e

-- the first ones are there already
first-skips : {A : Type 0} (most : Option ℕ) (rows : List A) (row : A) → has_first most (length rows) ≡ true → first most (numbered 1 (rows ++ row ∷ [])) ≡ first most (numbered 1 rows)
first-skips None rows row h = absurd (cc)
first-skips (Some n) rows row h =
    let enough : n ≤ length rows = leb-true n (length rows) h in
    let same = length-numbered 1 rows in
    ap (take n) (one_more rows row) ∙ take-append-le n (numbered 1 rows) _ (omega arith)

first-adds : {A : Type 0} (most : Option ℕ) (rows : List A) (row : A) → has_first most (length rows) ≡ false → first most (numbered 1 (rows ++ row ∷ [])) ≡ first most (numbered 1 rows) ++ (length rows + 1, row) ∷ []
first-adds None rows row h = one_more rows row
first-adds (Some n) rows row h =
    let few : length rows < n = leb-false n (length rows) h in
    let same = length-numbered 1 rows in
    let longer = length-append (numbered 1 rows) ((length rows + 1, row) ∷ []) in
    ap (take n) (one_more rows row) ∙ take_all n (numbered 1 rows ++ (length rows + 1, row) ∷ []) (omega arith)
    ∙ ap (λ l. l ++ (length rows + 1, row) ∷ []) (sym (take_all n (numbered 1 rows) (omega arith)))

-- the last ones of a list that has one more
last-more : {A : Type 0} (n : ℕ) (xs : List A) (x : A) → last (Some n) (last (Some n) xs ++ x ∷ []) ≡ last (Some n) (xs ++ x ∷ [])
last-more n xs x =
    let k = length xs - n in
    let kept = drop k xs in
    let size : length kept ≡ length xs - k = length-drop k xs in
    let longer : length (xs ++ x ∷ []) ≡ length xs + 1 = length-append xs (x ∷ []) in
    let again : length (kept ++ x ∷ []) ≡ length kept + 1 = length-append kept (x ∷ []) in
    let m = length (kept ++ x ∷ []) - n in
    let e : k + m ≡ length (xs ++ x ∷ []) - n = omega arith in
    ap (drop m) (sym (drop-append-le k xs (x ∷ []) (omega arith))) ∙ drop-drop m k (xs ++ x ∷ []) ∙ ap (λ i. drop i (xs ++ x ∷ [])) e

pub shown-skips : {A : Type 0} (most tail : Option ℕ) (rows : List A) (row : A) → has_first most (length rows) ≡ true → shown_rows most tail (rows ++ row ∷ []) ≡ shown_rows most tail rows
shown-skips most tail rows row h = ap (last tail) (first-skips most rows row h)

pub waiting-skips : {A : Type 0} (most tail : Option ℕ) (rows : List A) (row : A) → has_first most (length rows) ≡ true → waiting most tail rows ≡ waiting most tail (rows ++ row ∷ [])
waiting-skips most None rows row h = refl
waiting-skips most (Some n) rows row h = sym (shown-skips most (Some n) rows row h)

pub written-skips : {A : Type 0} (most tail : Option ℕ) (rows : List A) (row : A) → has_first most (length rows) ≡ true → written most tail rows ≡ written most tail (rows ++ row ∷ [])
written-skips most None rows row h = sym (shown-skips most None rows row h)
written-skips most (Some n) rows row h = refl

pub written-adds : {A : Type 0} (most : Option ℕ) (rows : List A) (row : A) → has_first most (length rows) ≡ false → written most None rows ++ (length rows + 1, row) ∷ [] ≡ written most None (rows ++ row ∷ [])
written-adds most rows row h = sym (first-adds most rows row h)

pub waiting-adds : {A : Type 0} (most : Option ℕ) (n : ℕ) (rows : List A) (row : A) → has_first most (length rows) ≡ false → last (Some n) (waiting most (Some n) rows ++ (length rows + 1, row) ∷ []) ≡ waiting most (Some n) (rows ++ row ∷ [])
waiting-adds most n rows row h = last-more n (first most (numbered 1 rows)) (length rows + 1, row) ∙ sym (ap (last (Some n)) (first-adds most rows row h))

pub waiting-few : {A : Type 0} (most : Option ℕ) (n : ℕ) (rows : List A) → length (waiting most (Some n) rows) ≤ n
waiting-few most n rows = let size = length-drop (length (first most (numbered 1 rows)) - n) (first most (numbered 1 rows)) in omega arith

-- one more is kept where there are fewer than are wanted, and else the first one is dropped
pub last-fewer : {A : Type 0} (n : ℕ) (xs : List A) (x : A) → length xs < n → xs ++ x ∷ [] ≡ last (Some n) (xs ++ x ∷ [])
last-fewer n xs x h =
    let longer : length (xs ++ x ∷ []) ≡ length xs + 1 = length-append xs (x ∷ []) in
    let e : 0 ≡ length (xs ++ x ∷ []) - n = omega arith in
    ap (λ i. drop i (xs ++ x ∷ [])) e

pub last-full : {A : Type 0} (n : ℕ) (xs : List A) (x : A) → 0 < n → length xs ≡ n → drop 1 xs ++ x ∷ [] ≡ last (Some n) (xs ++ x ∷ [])
last-full n xs x h full =
    let longer : length (xs ++ x ∷ []) ≡ length xs + 1 = length-append xs (x ∷ []) in
    let e : 1 ≡ length (xs ++ x ∷ []) - n = omega arith in
    sym (drop-append-le 1 xs (x ∷ []) (omega arith)) ∙ ap (λ i. drop i (xs ++ x ∷ [])) e

pub last-none : {A : Type 0} (xs : List A) (x : A) → length xs ≤ 0 → xs ≡ last (Some 0) (xs ++ x ∷ [])
last-none [] x h = refl
last-none (y ∷ xs) x h = absurd (omega arith)

-- how many are shown
length-first : {A : Type 0} (most : Option ℕ) (xs : List A) → length (first most xs) ≤ length xs
length-first None xs = omega arith
length-first (Some n) xs = let size = length-take n xs in omega arith

length-last : {A : Type 0} (tail : Option ℕ) (xs : List A) → length (last tail xs) ≤ length xs
length-last None xs = omega arith
length-last (Some n) xs = let size = length-drop (length xs - n) xs in omega arith

pub shown-few : {A : Type 0} (most tail : Option ℕ) (rows : List A) → length (shown_rows most tail rows) ≤ length rows
shown-few most tail rows =
    let some = length-first most (numbered 1 rows) in
    let fewer = length-last tail (first most (numbered 1 rows)) in
    let all = length-numbered 1 rows in
    omega arith

pub shown-count : {A : Type 0} (most : Option ℕ) (rows : List A) → first_count most (length rows) ≡ length (shown_rows most None rows)
shown-count None rows = sym (length-numbered 1 rows)
shown-count (Some n) rows =
    let size = length-take n (numbered 1 rows) in
    let all = length-numbered 1 rows in
    omega arith
