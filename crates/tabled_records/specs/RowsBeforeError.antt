-- The rows of a source of results before its first error.
use Rattle.std.specs.Prelude.{◌≡◌, Bool, true, List, [], Option, Some, None, Result, Ok, Err, MatchOption, MatchResult, ⊤, map}
use Rattle.std.specs.List.{AllZip}
use Rattle.std.specs.Iterator.{Yields}
use Rattle.tabled_base.specs.Given.{Given}
use Rattle.tabled_records.specs.declared.try_rows.TryRows.{TryRows}

-- the source may be asked, unless an error came
abbrev pub can_try : {S E : Type 0} → (S → Type 0) → TryRows S E → Type 0
can_try can s = MatchOption s.error (can s.rows) (λ _. ⊤)

-- a row comes only while no error came
pub record GivesRow {S W E : Type 0} (steps : S → Option (Result W E) → S → Type 0) (s : TryRows S E) (row : W) (t : TryRows S E) : Type 0 where
  pub none_before : s.error ≡ None
  pub came : steps s.rows (Some (Ok row)) t.rows
  pub still : t.error ≡ None

-- no row comes: the source has ended, or it yields an error, which is kept; or an error came before
abbrev pub GivesNone : {S W E : Type 0} → (S → Option (Result W E) → S → Type 0) → TryRows S E → TryRows S E → Type 0
GivesNone steps s t =
    MatchOption s.error (MatchOption t.error (steps s.rows None t.rows) (λ e. steps s.rows (Some (Err e)) t.rows)) (λ _. t ≡ s)

abbrev pub try_steps : {S W E : Type 0} → (S → Option (Result W E) → S → Type 0) → TryRows S E → Option W → TryRows S E → Type 0
try_steps steps s r t = MatchOption r (GivesNone steps s t) (λ row. GivesRow steps s row t)

-- an error, if one came
abbrev pub ended_by : {E : Type 0} → Option E → Result (Unit {0}) E
ended_by None = Ok tt
ended_by (Some e) = Err e

-- the source yields these rows first, each as `Ok`, with exactly these cells. If `whole` is true,
-- it then ends. If it is read to an error, that is what it yields next, and no row follows
pub record RowsBeforeError {S W T A E : Type 0} (steps : S → Option (Result W E) → S → Type 0) (becomes : W → T → Type 0)
    (cell_steps : T → Option A → T → Type 0) (from : S) (read : Result (Unit {0}) E) (cells : List (List A)) (whole : Bool) : Type 0 where
  pub lists : List W
  pub reached : S
  pub yielded : Yields steps from (map Ok lists) reached
  pub each : AllZip (Given becomes cell_steps) lists cells
  pub ended : MatchResult read (λ _. whole ≡ true → (last : S) × steps reached None last)
      (λ e. (whole ≡ true) × ((last : S) × steps reached (Some (Err e)) last))

-- the rows before the first error; if an error came before, there are none, and it is that error
abbrev pub AreBeforeError : {S W T A E : Type 0} → (S → Option (Result W E) → S → Type 0) → (W → T → Type 0) → (T → Option A → T → Type 0)
    → TryRows S E → Result (Unit {0}) E → List (List A) → Bool → Type 0
AreBeforeError steps becomes cell_steps from read cells whole =
    MatchOption from.error (RowsBeforeError steps becomes cell_steps from.rows read cells whole) (λ e. (cells ≡ []) × (read ≡ Err e))
