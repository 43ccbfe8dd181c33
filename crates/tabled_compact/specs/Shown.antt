-- Which rows of a source are shown, and how many of them are read.
use Rattle.std.specs.Prelude.{◌≡◌, ◌==◌, ◌≤◌, ◌+◌, ◌-◌, ◌⊎◌, ℕ, zero, suc, Bool, false, true, if◌then◌else◌, List, [], ◌∷◌, drop, take}
use Rattle.std.specs.Prelude.{length, map, Option, Some, None, IfSome}
use Rattle.tabled_records.specs.Reading.{ReadsTo}
use Rattle.tabled_compact.specs.declared.columns.Window.{Window}

-- the first rows, if their number is limited
abbrev pub first_rows : {A : Type 0} → Option ℕ → List A → List A
first_rows None rows = rows
first_rows (Some limit) rows = take limit rows

-- the rows in a window: after the skipped ones, as many as the limit allows
abbrev pub in_window : {A : Type 0} → Window → List A → List A
in_window w rows = first_rows w.limit (drop w.skip rows)

-- the rows that are shown: none if there is no column
abbrev pub shown_rows : {A : Type 0} → ℕ → Window → List A → List A
shown_rows columns w rows = if columns == 0 then [] else in_window w rows

-- no further row is shown
abbrev pub IsSpent : Window → Type 0
IsSpent w = w.limit ≡ Some 0

-- whether there is a row
abbrev pub has_rows : {A : Type 0} → List A → Bool
has_rows [] = false
has_rows (row ∷ rows) = true

-- how many rows a window spans, including those that are skipped; 0 if none may be shown
abbrev pub spanned : ℕ → Option ℕ → Option ℕ
spanned skip None = None
spanned skip (Some zero) = Some 0
spanned skip (Some (suc limit)) = Some (skip + suc limit)

-- the greatest number of rows that are wanted from a source
abbrev pub wanted : ℕ → Window → Option ℕ
wanted columns w = if columns == 0 then Some 0 else spanned w.skip w.limit

-- no more rows than are wanted
abbrev pub AreWanted : {A : Type 0} → ℕ → Window → List A → Type 0
AreWanted columns w rows = IfSome (wanted columns w) (λ most. length rows ≤ most)

-- the rows are all, or as many as are wanted
abbrev pub AreEnough : {A : Type 0} → ℕ → Window → List A → Bool → Type 0
AreEnough columns w rows whole = (whole ≡ true) ⊎ (wanted columns w ≡ Some (length rows))

-- the cells of the first rows that a source gives, and whether these are all
abbrev pub Came : {A : Type 0} → (List (List A) → Bool → Type 0) → (A → List ℕ) → List (List (List ℕ)) → Bool → Type 0
Came {A} begins text rows whole = (cells : List (List A)) × begins cells whole × (rows ≡ map (map text) cells)

-- ---- Of private steps: no public call promises this.

-- what is left of a limit
abbrev pub limit_left : Option ℕ → ℕ → Option ℕ
limit_left None taken = None
limit_left (Some limit) taken = Some (limit - taken)

-- what is left of a window after some rows
abbrev pub window_after : Window → ℕ → Window
window_after w rows = record { skip = w.skip - rows; limit = limit_left w.limit (rows - w.skip) }

-- how rows are taken from an iterator: its steps, which iterator of cells a row becomes, the steps
-- of that one, and the text of a cell
pub record RowTaking (S W T A : Type 0) : Type 1 where
  pub row_steps : S → Option W → S → Type 0
  pub cells_become : W → T → Type 0
  pub cell_steps : T → Option A → T → Type 0
  pub text : A → List ℕ

-- the cells of the rows that an iterator gave from one of its states to another: exactly these rows
-- were taken, and none after them; and whether it then had no more
abbrev pub Taken : {S W T A : Type 0} → RowTaking S W T A → S → S → List (List (List ℕ)) → Bool → Type 0
Taken {A = A} by old new rows whole =
    (cells : List (List A)) × ReadsTo by.row_steps by.cells_become by.cell_steps old cells whole new × (rows ≡ map (map by.text) cells)
