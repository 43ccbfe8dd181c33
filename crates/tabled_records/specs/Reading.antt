-- Rows that are read from an iterator, with their cells.
use Rattle.std.specs.Prelude.{◌≡◌, ℕ, ◌<◌, ◌≤◌, Bool, true, false, List, [], ◌∷◌, ◌++◌, length}
use Rattle.std.specs.List.{All, AllZip}
use Rattle.std.specs.declared.option.Option.{Option}
use Rattle.std.specs.declared.option.Option.TheVariants.{None}
use Rattle.std.specs.Iterator.{Count, HoldsAlong, IsFinite, IsFiniteIterable, Yields}
use Rattle.tabled_base.specs.Given.{Given}

-- the iterator may be asked for rows; these end, and so do the cells of each
pub record MayGive {S W T : Type 0} (can_row : S → Type 0) (row_steps : S → Option W → S → Type 0) (rows_left : S → Count)
    (cells_become : W → T → Type 0) (can_cell : T → Type 0) (cells_left : T → Count) (it : S) : Type 0 where
  pub can : can_row it
  pub ends : IsFinite (rows_left it)
  pub each : HoldsAlong row_steps it (All (IsFiniteIterable cells_become can_cell cells_left))

-- items were yielded, and more may be requested
pub record Walked {S A : Type 0} (can : S → Type 0) (steps : S → Option A → S → Type 0) (left : S → Count) (from to : S) : Type 0 where
  pub items : List A
  pub yielded : Yields steps from items to
  pub may : can to
  pub finite : IsFinite (left to)

-- rows are yielded, with their cells
pub record Reads {S W T A : Type 0} (row_steps : S → Option W → S → Type 0) (cells_become : W → T → Type 0)
    (cell_steps : T → Option A → T → Type 0) (from : S) (cells : List (List A)) (to : S) : Type 0 where
  pub lists : List W
  pub yielded : Yields row_steps from lists to
  pub each : AllZip (Given cells_become cell_steps) lists cells

-- whether a row is yielded, and its cells are appended to a list
abbrev pub IsAppended : {S W T A : Type 0} → (S → Option W → S → Type 0) → (W → T → Type 0) → (T → Option A → T → Type 0)
    → S → List A → Bool → List A → S → Type 0
IsAppended {A = A} row_steps cells_become cell_steps from old true new to =
    (row : List A) × Reads row_steps cells_become cell_steps from (row ∷ []) to × (new ≡ old ++ row)
IsAppended row_steps cells_become cell_steps from old false new to = row_steps from None to × (new ≡ old)

-- at least one row is yielded, and at most `most` rows
pub record ReadsSome {S W T A : Type 0} (row_steps : S → Option W → S → Type 0) (cells_become : W → T → Type 0)
    (cell_steps : T → Option A → T → Type 0) (from : S) (most : ℕ) (to : S) : Type 0 where
  pub cells : List (List A)
  pub reads : Reads row_steps cells_become cell_steps from cells to
  pub some : 0 < length cells
  pub within : length cells ≤ most

-- rows are yielded; if they are the whole, none is left
pub record ReadsTo {S W T A : Type 0} (row_steps : S → Option W → S → Type 0) (cells_become : W → T → Type 0)
    (cell_steps : T → Option A → T → Type 0) (from : S) (cells : List (List A)) (whole : Bool) (to : S) : Type 0 where
  pub reached : S
  pub reads : Reads row_steps cells_become cell_steps from cells reached
  pub ended : whole ≡ true → row_steps reached None to
  pub further : whole ≡ false → reached ≡ to
