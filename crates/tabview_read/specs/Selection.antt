-- Which rows are shown, in the order in which they were read.
use Rattle.std.specs.Prelude.{◌≡◌, ℕ, ◌+◌, ◌-◌, Bool, false, List, [], ◌∷◌, ◌++◌, Option, Some, None, drop, length, min, nat_le, refl, take}

-- the first n of a list, or all
abbrev pub first : {A : Type 0} → Option ℕ → List A → List A
first None xs = xs
first (Some n) xs = take n xs

-- the last n of a list, or all
abbrev pub last : {A : Type 0} → Option ℕ → List A → List A
last None xs = xs
last (Some n) xs = drop (length xs - n) xs

-- rows with their numbers, from a number on
abbrev pub numbered : {A : Type 0} → ℕ → List A → List (ℕ × A)
numbered n [] = []
numbered n (row ∷ rows) = (n, row) ∷ numbered (n + 1) rows

-- the rows that are shown: of the first ones the last, numbered from 1 among all rows
abbrev pub shown_rows : {A : Type 0} → Option ℕ → Option ℕ → List A → List (ℕ × A)
shown_rows rows tail all = last tail (first rows (numbered 1 all))

-- n rows are as many as the first ones
abbrev pub has_first : Option ℕ → ℕ → Bool
has_first None n = false
has_first (Some most) n = nat_le most n

-- how many of n rows are among the first ones
abbrev pub first_count : Option ℕ → ℕ → ℕ
first_count None n = n
first_count (Some most) n = min n most

-- the shown rows that are kept until all were read, and those that are written at once
abbrev pub waiting : {A : Type 0} → Option ℕ → Option ℕ → List A → List (ℕ × A)
waiting rows None all = []
waiting rows (Some n) all = shown_rows rows (Some n) all

abbrev pub written : {A : Type 0} → Option ℕ → Option ℕ → List A → List (ℕ × A)
written rows None all = shown_rows rows None all
written rows (Some n) all = []

-- a list gets more items at its end
pub record Grows {A : Type 0} (old new : List A) : Type 0 where
  pub more : List A
  pub is : new ≡ old ++ more

-- ---- examples

shown_first : shown_rows {A = ℕ} (Some 2) None (7 ∷ 8 ∷ 9 ∷ []) ≡ (1, 7) ∷ (2, 8) ∷ []
shown_first = refl

shown_last : shown_rows {A = ℕ} None (Some 2) (7 ∷ 8 ∷ 9 ∷ []) ≡ (2, 8) ∷ (3, 9) ∷ []
shown_last = refl

shown_both : shown_rows {A = ℕ} (Some 2) (Some 1) (7 ∷ 8 ∷ 9 ∷ []) ≡ (2, 8) ∷ []
shown_both = refl

shown_more : shown_rows {A = ℕ} None (Some 5) (7 ∷ 8 ∷ []) ≡ (1, 7) ∷ (2, 8) ∷ []
shown_more = refl

shown_none : shown_rows {A = ℕ} (Some 0) None (7 ∷ []) ≡ []
shown_none = refl
