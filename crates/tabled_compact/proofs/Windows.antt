-- The rows in a window, where they come one by one.
use Rattle.tabled_compact.proofs.Names.{IfSome, IsSpent, List, None, Option, Some, Window, [], ap, append-nil, arith, has_rows}
use Rattle.tabled_compact.proofs.Names.{if◌then◌else◌, in_window, length, length-append, refl, spanned, suc, sym, take, true, window_after}
use Rattle.tabled_compact.proofs.Names.{zero, ℕ, ◌++◌, ◌+◌, ◌-◌, ◌<◌, ◌==◌, ◌∙◌, ◌∷◌, ◌≡◌, ◌≤◌}
use Rattle.std.proofs.Common.{drop}
use Rattle.std.proofs.lemmas.List.{length-drop, take_all}
use Rattle.tabled_compact.proofs.RowPieces.{not-zero}
use Rattle.tabled_compact.specs.Shown.{first_rows, limit_left}

-- a row behind those that are passed over: it stays, unless it is passed over too
dropped-more : {A : Type 0} (n : ℕ) (rows : List A) (row : A) (k : ℕ) → k ≡ n - length rows
    → drop n (rows ++ row ∷ []) ≡ drop n rows ++ (if k == 0 then row ∷ [] else [])
dropped-more zero rows row zero h = refl
dropped-more zero rows row (suc k) h = absurd (omega arith)
dropped-more (suc n) [] row zero h = absurd (omega arith)
dropped-more (suc zero) [] row (suc k) h = rw (not-zero k) refl
dropped-more (suc (suc n)) [] row (suc k) h = rw (not-zero k) refl
dropped-more (suc n) (x ∷ rows) row k h = dropped-more n rows row k (omega arith)

taken-more : {A : Type 0} (n : ℕ) (rows : List A) (row : A) → length rows < n → take n (rows ++ row ∷ []) ≡ take n rows ++ row ∷ []
taken-more n rows row h =
    let long = length-append rows (row ∷ []) in
    take_all n (rows ++ row ∷ []) (omega (arith, long)) ∙ ap (λ u. u ++ row ∷ []) (sym (take_all n rows (omega arith)))

-- the window is not at its end after so many rows
abbrev pub IsOpen : Window → ℕ → Type 0
IsOpen w rows = IsSpent (window_after w rows) → ⊥

not-spent : (m : ℕ) → (Some m ≡ Some 0 → ⊥) → 0 < m
not-spent zero f = absurd (f refl)
not-spent (suc m) f = omega arith

-- a row that comes before the end of the window: it is shown, unless it is skipped
pub first-more : {A : Type 0} (limit : Option ℕ) (skip : ℕ) (rows : List A) (row : A) (k : ℕ) → k ≡ skip - length rows
    → (limit_left limit (length rows - skip) ≡ Some 0 → ⊥)
    → first_rows limit (drop skip (rows ++ row ∷ [])) ≡ first_rows limit (drop skip rows) ++ (if k == 0 then row ∷ [] else [])
first-more None skip rows row k h open' = dropped-more skip rows row k h
first-more (Some l) skip rows row zero h open' =
    let long = length-drop skip rows in
    let left = not-spent (l - (length rows - skip)) open' in
    ap (take l) (dropped-more skip rows row 0 h) ∙ taken-more l (drop skip rows) row (omega (arith, long, left))
first-more (Some l) skip rows row (suc k) h open' =
    let passed : drop skip (rows ++ row ∷ []) ≡ drop skip rows = dropped-more skip rows row (suc k) h ∙ rw (not-zero k) (append-nil (drop skip rows)) in
    rw (not-zero k) (ap (take l) passed ∙ sym (append-nil (take l (drop skip rows))))

-- fewer rows came than are wanted
pub within : (limit : Option ℕ) (skip n : ℕ) → (limit ≡ Some 0 → ⊥) → (limit_left limit (n - skip) ≡ Some 0 → ⊥)
    → IfSome (spanned skip limit) (λ most. n < most)
within None skip n some still = tt
within (Some zero) skip n some still = absurd (some refl)
within (Some (suc l)) skip n some still = let left = not-spent (suc l - (n - skip)) still in omega (arith, left)

-- where the window is at its end, as many came as are wanted
pub spent : (limit : Option ℕ) (skip n : ℕ) → (limit ≡ Some 0 → ⊥) → (limit_left limit (n - skip) ≡ Some 0 → ⊥)
    → limit_left limit (n + 1 - skip) ≡ Some 0 → spanned skip limit ≡ Some (n + 1)
spent None skip n some still now = absurd (cc)
spent (Some zero) skip n some still now = absurd (some refl)
spent (Some (suc l)) skip n some still now =
    let left = not-spent (suc l - (n - skip)) still in
    let none : suc l - (n + 1 - skip) ≡ 0 = cc in
    ap Some (omega (arith, left, none))

left-step : (limit : Option ℕ) (skip n : ℕ) → limit_left (limit_left limit (n - skip)) (1 - (skip - n)) ≡ limit_left limit (n + 1 - skip)
left-step None skip n = refl
left-step (Some l) skip n = ap Some (omega arith)

pub window-step : (w : Window) (n : ℕ) → window_after (window_after w n) 1 ≡ window_after w (n + 1)
window-step w n =
    let e : w.skip - n - 1 ≡ w.skip - (n + 1) = omega arith in
    let make : ℕ → Option ℕ → Window = λ s l. record { skip = s; limit = l } in
    ap (λ s. make s (limit_left (limit_left w.limit (n - w.skip)) (1 - (w.skip - n)))) e
    ∙ ap (λ l. make (w.skip - (n + 1)) l) (left-step w.limit w.skip n)

left-none : (limit : Option ℕ) → limit_left limit 0 ≡ limit
left-none None = refl
left-none (Some l) = ap Some (omega arith)

pub window-start : (w : Window) → window_after w 0 ≡ w
window-start w =
    let e : 0 - w.skip ≡ 0 = omega arith in
    let s : w.skip - 0 ≡ w.skip = omega arith in
    let make : ℕ → Option ℕ → Window = λ s l. record { skip = s; limit = l } in
    ap (λ n. make (w.skip - 0) (limit_left w.limit n)) e ∙ ap (λ l. make (w.skip - 0) l) (left-none w.limit)
    ∙ ap (λ n. make n w.limit) s

-- ---- what is shown of few rows

pub window-none : {A : Type 0} (w : Window) (rows : List A) → length rows ≤ w.skip → in_window w rows ≡ []
window-none w rows h = first-none w.limit (drop w.skip rows) (omega (arith, length-drop w.skip rows))
  where
    first-none : {B : Type 0} (limit : Option ℕ) (xs : List B) → length xs ≡ 0 → first_rows limit xs ≡ []
    first-none None [] e = refl
    first-none (Some zero) [] e = refl
    first-none (Some (suc l)) [] e = refl
    first-none limit (x ∷ xs) e = absurd (omega arith)

pub window-one : {A : Type 0} (w : Window) (rows : List A) → (IsSpent w → ⊥) → length rows ≡ w.skip + 1 → has_rows (in_window w rows) ≡ true
window-one w rows some h = first-one w.limit (drop w.skip rows) some (omega (arith, length-drop w.skip rows))
  where
    first-one : {B : Type 0} (limit : Option ℕ) (xs : List B) → (limit ≡ Some 0 → ⊥) → length xs ≡ 1 → has_rows (first_rows limit xs) ≡ true
    first-one limit [] f e = absurd (omega arith)
    first-one None (x ∷ xs) f e = refl
    first-one (Some zero) (x ∷ xs) f e = absurd (f refl)
    first-one (Some (suc l)) (x ∷ xs) f e = refl

-- the rows that are skipped, and one more, are wanted
pub window-wanted : (w : Window) (n : ℕ) → (IsSpent w → ⊥) → n ≤ w.skip + 1 → IfSome (spanned w.skip w.limit) (λ most. n ≤ most)
window-wanted w n some h = go w.limit w.skip some h
  where
    go : (limit : Option ℕ) (skip : ℕ) → (limit ≡ Some 0 → ⊥) → n ≤ skip + 1 → IfSome (spanned skip limit) (λ most. n ≤ most)
    go None skip f l = tt
    go (Some zero) skip f l = absurd (f refl)
    go (Some (suc m)) skip f l = omega arith
