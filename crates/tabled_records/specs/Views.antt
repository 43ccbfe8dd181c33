-- The rows and cells that views of records give.
use Rattle.std.specs.Prelude.{◌≡◌, Bool, true, ℕ, ◌<◌, ◌≤◌, List, length, ◌+◌, OnSome, [], MatchOption, ◌∷◌}
use Rattle.std.specs.List.{AllZip}
use Rattle.std.specs.declared.option.Option.{Option}
use Rattle.std.specs.Iterator.{YieldsThen}
use Rattle.tabled_base.specs.Given.{Given}
use Rattle.tabled_records.specs.declared.limits.LaterRows.{LaterRows}
use Rattle.std.specs.declared.option.Option.TheVariants.{None, Some}
use Rattle.tabled_records.specs.declared.limits.FirstCells.{FirstCells}
use Rattle.tabled_text.specs.Cut.{IsCut, NeedsFill}
use Rattle.tabled_records.specs.declared.truncate.CutCell.{CutCell}
use Rattle.tabled_records.specs.declared.truncate.CutCells.{CutCells}

-- at most `limit` first rows; if they are all and fewer, the records end
pub record IsLimited {A : Type 0} (begins : List A → Bool → Type 0) (limit : ℕ) (rows : List A) (whole : Bool) : Type 0 where
  pub end : Bool
  pub first : begins rows end
  pub most : length rows ≤ limit
  pub fewer : whole ≡ true → length rows < limit → end ≡ true

-- rows were read with their cells, and then this one was yielded, or none is left; if none is left,
-- some may still be to be skipped
pub record SkipsRows {S W T A : Type 0} (row_steps : S → Option W → S → Type 0) (cells_become : W → T → Type 0)
    (cell_steps : T → Option A → T → Type 0) (s : LaterRows S) (r : Option W) (t : LaterRows S) : Type 0 where
  pub lists : List W
  pub cells : List (List A)
  pub yielded : YieldsThen row_steps s.rows lists r t.rows
  pub each : AllZip (Given cells_become cell_steps) lists cells
  pub count : length lists + t.left ≡ s.left
  pub done : OnSome r (t.left ≡ 0)

-- a cell within the limit is yielded; or the others are read to their end, and there are none if
-- the limit isn't reached
abbrev pub first_cells_steps : {S A : Type 0} → (S → Option A → S → Type 0) → FirstCells S → Option A → FirstCells S → Type 0
first_cells_steps {S} {A} steps s r t = MatchOption r
    ((others : List A) × YieldsThen steps s.cells others None t.cells × (0 < s.left → others ≡ []))
    (λ cell. steps s.cells (Some cell) t.cells × (t.left + 1 ≡ s.left))

-- ---- rows that are made of the rows of a source, one of each

-- this row is made of the next row of the source, or none is left
abbrev pub RowOfRow : {S W X : Type 0} → (S → Option W → S → Type 0) → (W → X → Type 0) → S → Option X → S → Type 0
RowOfRow {S} {W} {X} steps makes s r t = MatchOption r (steps s None t) (λ x. (row : W) × steps s (Some row) t × makes row x)

-- the rows are a change of rows for which `before` holds
pub record AreChanged {A B : Type 0} (before : List A → Type 0) (change : List A → List B) (rows : List B) : Type 0 where
  pub all : List A
  pub given : before all
  pub changed : rows ≡ change all

-- what more is known of the rows before they were changed
pub changed_of : {A B : Type 0} {P Q : List A → Type 0} {change : List A → List B} {rows : List B} → ((all : List A) → P all → Q all)
    → AreChanged P change rows → AreChanged Q change rows
changed_of f c = record { all = c.all; given = f c.all c.given; changed = c.changed }

-- ---- cells that are cut to the widths of their columns

-- the cells of a row, each with the width of its column; columns after the list of widths have none
abbrev pub with_widths : {A : Type 0} → List ℕ → List A → List (CutCell A)
with_widths widths [] = []
with_widths [] (cell ∷ cells) = record { cell = cell; width = None } ∷ with_widths [] cells
with_widths (width ∷ widths) (cell ∷ cells) = record { cell = cell; width = Some width } ∷ with_widths widths cells

-- a text cut to the width, or the text itself if there is none
abbrev pub IsShown : Option ℕ → List ℕ → List ℕ → Type 0
IsShown width text answer = MatchOption width (answer ≡ text) (λ n. IsCut n text answer)

-- the cut ends with U+FFFD
abbrev pub WantsFill : Option ℕ → List ℕ → Type 0
WantsFill width text = MatchOption width ⊥ (λ n. NeedsFill n text)

-- the first width, and the others
pub record TakesWidth (widths : List ℕ) (width : Option ℕ) (others : List ℕ) : Type 0 where
  pub taken : MatchOption width ((widths ≡ []) × (others ≡ [])) (λ n. widths ≡ n ∷ others)

-- a cell is yielded with the next width, or none is left
abbrev pub cut_cells_steps : {S A : Type 0} → (S → Option A → S → Type 0) → CutCells S → Option (CutCell A) → CutCells S → Type 0
cut_cells_steps steps s r t = MatchOption r (steps s.cells None t.cells)
    (λ c. steps s.cells (Some c.cell) t.cells × TakesWidth s.widths.now c.width t.widths.now)
