-- Records with some rows read ahead.
use Rattle.std.specs.Prelude.{◌≡◌, ℕ, ◌<◌, ◌≤◌, Bool, true, false, List, [], ◌++◌, map, length, MatchOption, ⊤}
use Rattle.std.specs.declared.option.Option.{Option}
use Rattle.std.specs.declared.option.Option.TheVariants.{Some, None}
use Rattle.std.specs.declared.vec.Vec.{Vec}
use Rattle.std.specs.declared.alloc.Global.{Global}
use Rattle.std.specs.Iterator.{Count, at_most, count_add}
use Rattle.std.specs.Vec.Iter.{into_iter_items, into_iter_len, into_iter_steps}
use Rattle.tabled_records.specs.Reading.{MayGive, ReadsTo}
use Rattle.tabled_records.specs.declared.buffer.BufCells.{BufCells}
use Rattle.tabled_records.specs.declared.buffer.BufCells.TheVariants.{Kept, Later}
use Rattle.tabled_records.specs.declared.buffer.BufRows.{BufRows}

-- the cells of the rows that were read ahead
abbrev pub cells_ahead : {A : Type 0} → List (Vec A Global) → List (List A)
cells_ahead rows = map (λ row. row.items) rows

-- at least one row is yielded first, and at most `most` rows
pub record BeginsSome {A : Type 0} (begins : List A → Bool → Type 0) (most : ℕ) : Type 0 where
  pub rows : List A
  pub begun : begins rows false
  pub some : 0 < length rows
  pub within : length rows ≤ most

-- the iterator, if it isn't at its end, may be asked for rows, and ends
abbrev pub MayGiveLater : {S W T : Type 0} → (S → Type 0) → (S → Option W → S → Type 0) → (S → Count) → (W → T → Type 0)
    → (T → Type 0) → (T → Count) → Option S → Type 0
MayGiveLater can_row row_steps rows_left cells_become can_cell cells_left rows =
    MatchOption rows ⊤ (λ it. MayGive can_row row_steps rows_left cells_become can_cell cells_left it)

-- an iterator yields rows, and none if its end was reached
abbrev pub ReadsLater : {S W T A : Type 0} → (S → Option W → S → Type 0) → (W → T → Type 0) → (T → Option A → T → Type 0)
    → Option S → List (List A) → Bool → Type 0
ReadsLater {S} row_steps cells_become cell_steps rows later whole =
    MatchOption rows (later ≡ []) (λ it. (to : S) × ReadsTo row_steps cells_become cell_steps it later whole to)

-- these rows are first among those that were read ahead and the later ones; if they are all, no row
-- is left
pub record BufBegin {S W T A : Type 0} (row_steps : S → Option W → S → Type 0) (cells_become : W → T → Type 0)
    (cell_steps : T → Option A → T → Type 0) (ahead : List (List A)) (rows : Option S) (cells : List (List A)) (whole : Bool) : Type 0 where
  pub later : List (List A)
  pub left : List (List A)
  pub first : cells ++ left ≡ ahead ++ later
  pub come : ReadsLater row_steps cells_become cell_steps rows later whole
  pub all : whole ≡ true → left ≡ []

-- a cell of a row that was read ahead, or of a later one
abbrev pub buf_cell_steps : {T A : Type 0} → (T → Option A → T → Type 0) → BufCells A T → Option A → BufCells A T → Type 0
buf_cell_steps steps (Kept s) r (Kept t) = into_iter_steps s r t
buf_cell_steps steps (Kept s) r (Later t) = ⊥
buf_cell_steps steps (Later s) r (Kept t) = ⊥
buf_cell_steps steps (Later s) r (Later t) = steps s r t

-- whether the next cell of a row may be requested
abbrev pub can_cell : {T A : Type 0} → (T → Type 0) → BufCells A T → Type 0
can_cell can (Kept s) = ⊤
can_cell can (Later s) = can s

-- how many cells of a row remain
abbrev pub cells_left : {T A : Type 0} → (T → Count) → BufCells A T → Count
cells_left left (Kept s) = at_most (into_iter_len s)
cells_left left (Later s) = left s

-- a row that was read ahead was yielded
pub record KeptRow {S A : Type 0} (s : BufRows A S) (cells : List A) (t : BufRows A S) : Type 0 where
  pub row : Vec A Global
  pub taken : into_iter_steps s.kept (Some row) t.kept
  pub items : row.items ≡ cells
  pub same : t.later ≡ s.later

-- a later row was yielded, and no row that was read ahead remains
pub record LaterRow {S W T A : Type 0} (steps : S → Option W → S → Type 0) (becomes : W → T → Type 0)
    (s : BufRows A S) (cells : T) (t : BufRows A S) : Type 0 where
  pub row : W
  pub old : S
  pub new : S
  pub none : into_iter_steps s.kept None t.kept
  pub before : s.later ≡ Some old
  pub behind : t.later ≡ Some new
  pub came : steps old (Some row) new
  pub made : becomes row cells

-- a row was yielded: read ahead, or later
abbrev pub row_comes : {S W T A : Type 0} → (S → Option W → S → Type 0) → (W → T → Type 0) → BufRows A S → BufCells A T
    → BufRows A S → Type 0
row_comes steps becomes s (Kept cells) t = (into_iter_len cells ≡ length (into_iter_items cells)) × KeptRow s (into_iter_items cells) t
row_comes steps becomes s (Later cells) t = LaterRow steps becomes s cells t

-- first the rows that were read ahead, and then those of the iterator unless it is at its end
abbrev pub buf_steps : {S W T A : Type 0} → (S → Option W → S → Type 0) → (W → T → Type 0) → BufRows A S → Option (BufCells A T)
    → BufRows A S → Type 0
buf_steps {S} steps becomes s r t = MatchOption r
    (into_iter_steps s.kept None t.kept × MatchOption s.later ⊤ (λ it. (last : S) × steps it None last))
    (λ cells. row_comes steps becomes s cells t)

-- how many rows remain: of an iterator; and with those that were read ahead
abbrev pub later_left : {S : Type 0} → (S → Count) → Option S → Count
later_left left None = at_most 0
later_left left (Some it) = left it

abbrev pub rows_left : {S A : Type 0} → (S → Count) → BufRows A S → Count
rows_left left s = count_add (at_most (into_iter_len s.kept)) (later_left left s.later)
