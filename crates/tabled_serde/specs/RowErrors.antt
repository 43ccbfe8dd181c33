-- Why values have no rows.
use Rattle.std.specs.Prelude.{◌≡◌, ℕ, List, [], ◌∷◌, ◌++◌, Option, Some, ⊤, string_bytes}
use Rattle.std.specs.Iterator.{Yields}
use Rattle.std.specs.List.{AllZip}
use Rattle.std.specs.declared.alloc.Global.{Global}
use Rattle.std.specs.declared.string.String.{String}
use Rattle.serde.specs.Event.{Event}
use Rattle.tabled_serde.specs.Errors.{IsValueError}
use Rattle.tabled_serde.specs.Rows.{HasFields, IsBelow, IsRowOf}
use Rattle.tabled_serde.specs.declared.error.RowError.{RowError}
use Rattle.tabled_serde.specs.declared.error.RowError.TheVariants.{Memory, Unknown}

-- this name comes next
abbrev pub IsNext : List (String Global) → List ℕ → Type 0
IsNext [] name = ⊥
IsNext (next ∷ names) name = string_bytes next ≡ name

-- below this header these names have columns, in their order
abbrev pub HaveColumns : List (List ℕ) → List (List ℕ) → Type 0
HaveColumns header names = (cells row : List (List ℕ)) × IsBelow header names cells row

-- the first of the names without a column: those before it have columns, and with it they don't
pub record HasNoColumn (header names : List (List ℕ)) (name : List ℕ) : Type 0 where
  pub before : List (List ℕ)
  pub after : List (List ℕ)
  pub names_are : names ≡ before ++ name ∷ after
  pub placed : HaveColumns header before
  pub unplaced : ¬ (HaveColumns header (before ++ name ∷ []))

-- an allocation failed, or this field has no column
abbrev pub IsColumnError : List (List ℕ) → List (List ℕ) → RowError → Type 0
IsColumnError header names Memory = ⊤
IsColumnError header names (Unknown field) = HasNoColumn header names (string_bytes field)
IsColumnError header names e = ⊥

-- an error of a value below this header: its fields can't be read, or one of them has no column
pub data IsRowError {T : Type 0} (writes : T → Option (List Event) → Option (List Event) → Type 0) (own : T → List ℕ → List ℕ → Type 0)
    (none : List ℕ) (header : List (List ℕ)) (value : T)
    : RowError → Type 0 where
  of_fields : (e : RowError) → IsValueError writes own none value e → IsRowError writes own none header value e
  of_columns : (names cells : List (List ℕ)) (e : RowError) → HasFields writes none value names cells → IsColumnError header names e
      → IsRowError writes own none header value e

-- a source of values: `becomes` says which iterator is made of it, `steps` how that goes on,
-- `writes` which events a value writes, `own` which errors are its own, and `none` is the text of a
-- `None`
pub record ValueSource (U S T : Type 0) : Type 1 where
  pub source : U
  pub becomes : U → S → Type 0
  pub steps : S → Option T → S → Type 0
  pub writes : T → Option (List Event) → Option (List Event) → Type 0
  pub own : T → List ℕ → List ℕ → Type 0
  pub none : List ℕ

-- an error of the value that follows these. They have rows, below the names of the first
abbrev pub FailsAfter : {U S T : Type 0} → ValueSource U S T → List T → T → RowError → Type 0
FailsAfter from [] value e = IsValueError from.writes from.own from.none value e
FailsAfter from (first ∷ values) value e = (names cells : List (List ℕ)) × (later : List (List (List ℕ)))
    × HasFields from.writes from.none first names cells × AllZip (IsRowOf from.writes from.none names) values later
    × IsRowError from.writes from.own from.none names value e

-- the source yields these values and then one that fails
pub record FailsAtNext {U S T : Type 0} (from : ValueSource U S T) (e : RowError) : Type 0 where
  pub start : S
  pub reached : S
  pub rest : S
  pub values : List T
  pub value : T
  pub made : from.becomes from.source start
  pub yielded : Yields from.steps start values reached
  pub next : from.steps reached (Some value) rest
  pub fails : FailsAfter from values value e

-- an error of the rows of a source: an allocation failed, or one of its values has no row
pub data IsSourceError {U S T : Type 0} (from : ValueSource U S T) : RowError → Type 0 where
  no_memory : IsSourceError from Memory
  at_value : (e : RowError) → FailsAtNext from e → IsSourceError from e
