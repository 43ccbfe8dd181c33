-- What a source of rows yields: its rows in order, and the cells of each row.
use Rattle.std.specs.Prelude.{◌≡◌, Bool, true, List}
use Rattle.std.specs.List.{All, AllZip}
use Rattle.std.specs.declared.option.Option.{Option}
use Rattle.std.specs.declared.option.Option.TheVariants.{None}
use Rattle.std.specs.Iterator.{Count, HoldsAlong, IsFiniteIterable, Yields}
use Rattle.tabled_base.specs.Given.{Given}

-- the iteration over the rows ends, and so does the iteration over the cells of each row
pub record RowsEnd {V S W T : Type 0} (rows_become : V → S → Type 0) (can_row : S → Type 0)
    (row_steps : S → Option W → S → Type 0) (rows_left : S → Count) (cells_become : W → T → Type 0)
    (can_cell : T → Type 0) (cells_left : T → Count) (rows : V) : Type 0 where
  pub all : IsFiniteIterable rows_become can_row rows_left rows
  pub each : (it : S) → rows_become rows it → HoldsAlong row_steps it (All (IsFiniteIterable cells_become can_cell cells_left))

-- exactly these rows are yielded, and exactly these cells of each
pub record RowsGiven {V S W T A : Type 0} (rows_become : V → S → Type 0) (row_steps : S → Option W → S → Type 0)
    (cells_become : W → T → Type 0) (cell_steps : T → Option A → T → Type 0) (rows : V) (cells : List (List A)) : Type 0 where
  pub lists : List W
  pub all : Given rows_become row_steps rows lists
  pub each : AllZip (Given cells_become cell_steps) lists cells

-- these rows are yielded first, and exactly these cells of each. If `whole` is true, no more rows
-- follow
pub record RowsBegin {V S W T A : Type 0} (rows_become : V → S → Type 0) (row_steps : S → Option W → S → Type 0)
    (cells_become : W → T → Type 0) (cell_steps : T → Option A → T → Type 0) (rows : V) (cells : List (List A)) (whole : Bool) : Type 0 where
  pub lists : List W
  pub iterator : S
  pub made : rows_become rows iterator
  pub reached : S
  pub yielded : Yields row_steps iterator lists reached
  pub each : AllZip (Given cells_become cell_steps) lists cells
  pub ended : whole ≡ true → (last : S) × row_steps reached None last
