-- The rows of values, one by one.
use Rattle.std.specs.Prelude.{◌≡◌, ℕ, ◌+◌, List, Option, Some, None, Result, Ok, IsSomeAnd, MatchOption, MatchResult, if◌then◌else◌, is_some}
use Rattle.std.specs.Iterator.{Count, at_most, count_add}
use Rattle.std.specs.declared.alloc.Global.{Global}
use Rattle.std.specs.declared.string.String.{String}
use Rattle.std.specs.declared.vec.Vec.{Vec}
use Rattle.serde.specs.Event.{Event}
use Rattle.tabled_serde.specs.Errors.{IsValueError}
use Rattle.tabled_serde.specs.Reader.{bytes_of}
use Rattle.tabled_serde.specs.RowErrors.{IsRowError}
use Rattle.tabled_serde.specs.Rows.{HasFields, IsRowOf}
use Rattle.tabled_serde.specs.declared.error.RowError.{RowError}
use Rattle.tabled_serde.specs.declared.rows.ValueRows.{ValueRows}

-- how many rows come besides those of the values that are left
abbrev pub rows_ahead : {S : Type 0} → ValueRows S → ℕ
rows_ahead s = (if is_some s.header then 0 else 1) + (if is_some s.first then 1 else 0)

abbrev pub rows_left : {S : Type 0} → (S → Count) → ValueRows S → Count
rows_left left s = count_add (left s.values) (at_most (rows_ahead s))

-- the first value gives the header, and its cells are kept
pub record GivesHeader {S T : Type 0} (writes : T → Option (List Event) → Option (List Event) → Type 0)
    (s : ValueRows S) (value : T) (row : List (List ℕ)) (t : ValueRows S) : Type 0 where
  pub names : List (List ℕ)
  pub cells : List (List ℕ)
  pub fields : HasFields writes s.none.now value names cells
  pub row_is : row ≡ names
  pub header_kept : IsSomeAnd t.header (λ header. bytes_of header ≡ names)
  pub first_kept : IsSomeAnd t.first (λ first. bytes_of first ≡ cells)
  pub same : t ≡ record s { header = t.header; first = t.first }

-- a later value gives its row below the header
abbrev pub GivesRow : {S T : Type 0} → (T → Option (List Event) → Option (List Event) → Type 0) → ValueRows S → T → List (List ℕ) → ValueRows S → Type 0
GivesRow writes s value row t =
    MatchOption s.header (GivesHeader writes s value row t) (λ header. IsRowOf writes s.none.now (bytes_of header) value row × (t ≡ s))

-- a value fails: the first as a value without a header, a later one below the header
abbrev pub FailsAt : {S T : Type 0} → (T → Option (List Event) → Option (List Event) → Type 0) → (T → List ℕ → List ℕ → Type 0)
    → ValueRows S → T → RowError → Type 0
FailsAt writes own s value e =
    MatchOption s.header (IsValueError writes own s.none.now value e) (λ header. IsRowError writes own s.none.now (bytes_of header) value e)

-- a value is taken from the source, and gives a row, or fails
pub record TakesValue {S T : Type 0} (steps : S → Option T → S → Type 0) (writes : T → Option (List Event) → Option (List Event) → Type 0)
    (own : T → List ℕ → List ℕ → Type 0) (s : ValueRows S) (outcome : Result (Vec (String Global) Global) RowError) (t : ValueRows S) : Type 0 where
  pub value : T
  pub rest : S
  pub came : steps s.values (Some value) rest
  pub gives : MatchResult outcome (λ row. GivesRow writes (record s { values = rest }) value (bytes_of row) t) (λ e. (t ≡ record s { values = rest }) × FailsAt writes own s value e)

-- the cells of the first value follow the header; else a value is taken from the source
abbrev pub row_steps : {S T : Type 0} → (S → Option T → S → Type 0) → (T → Option (List Event) → Option (List Event) → Type 0)
    → (T → List ℕ → List ℕ → Type 0) → ValueRows S → Option (Result (Vec (String Global) Global) RowError) → ValueRows S → Type 0
row_steps steps writes own s r t =
    MatchOption s.first
    (MatchOption r (steps s.values None t.values × (t ≡ record s { values = t.values })) (λ outcome. TakesValue steps writes own s outcome t))
    (λ cells. (r ≡ Some (Ok cells)) × (t ≡ record s { first = None }))
