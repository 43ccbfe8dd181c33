-- The rows of values.
use Rattle.std.specs.Prelude.{◌≡◌, ◌≢◌, ℕ, List, [], ◌∷◌, ◌++◌, Option, Some}
use Rattle.std.specs.List.{AllZip}
use Rattle.serde.specs.Event.{Event}
use Rattle.tabled_serde.specs.Records.{AreRecord}

-- these are the names and cells of a value, of which `writes` says the events
pub record HasFields {T : Type 0} (writes : T → Option (List Event) → Option (List Event) → Type 0)
    (none : List ℕ) (value : T) (names cells : List (List ℕ)) : Type 0 where
  pub events : List Event
  pub written : writes value (Some []) (Some events)
  pub fields : AreRecord none events names cells

-- in a row below this header each of these cells is below its name, in their order, and the other
-- cells are empty
pub data IsBelow : List (List ℕ) → List (List ℕ) → List (List ℕ) → List (List ℕ) → Type 0 where
  no_column : IsBelow [] [] [] []
  and_cell : (header names cells row : List (List ℕ)) (name cell : List ℕ) → IsBelow header names cells row
      → IsBelow (header ++ name ∷ []) (names ++ name ∷ []) (cells ++ cell ∷ []) (row ++ cell ∷ [])
  and_empty : (header names cells row : List (List ℕ)) (name : List ℕ) → IsBelow header names cells row
      → IsBelow (header ++ name ∷ []) names cells (row ++ [] ∷ [])

-- the same, and each cell is in the first column of its name that is behind the cell before it
pub data IsPlaced : List (List ℕ) → List (List ℕ) → List (List ℕ) → List (List ℕ) → Type 0 where
  no_more : IsPlaced [] [] [] []
  with_cell : (header names cells row : List (List ℕ)) (name cell : List ℕ) → IsPlaced header names cells row
      → IsPlaced (name ∷ header) (name ∷ names) (cell ∷ cells) (cell ∷ row)
  with_empty : (header names cells row : List (List ℕ)) (name : List ℕ) → ((after : List (List ℕ)) → names ≢ name ∷ after)
      → IsPlaced header names cells row → IsPlaced (name ∷ header) names cells ([] ∷ row)

-- the row of a value below this header
pub record IsRowOf {T : Type 0} (writes : T → Option (List Event) → Option (List Event) → Type 0)
    (none : List ℕ) (header : List (List ℕ)) (value : T) (row : List (List ℕ)) : Type 0 where
  pub names : List (List ℕ)
  pub cells : List (List ℕ)
  pub fields : HasFields writes none value names cells
  pub below : IsPlaced header names cells row

-- the rows of values: the names of the first and its cells, and then a row for each other
abbrev pub AreRows : {T : Type 0} → (T → Option (List Event) → Option (List Event) → Type 0) → List ℕ → List T → List (List (List ℕ)) → Type 0
AreRows writes none [] rows = rows ≡ []
AreRows writes none (value ∷ values) rows = (names cells : List (List ℕ)) × (later : List (List (List ℕ)))
    × HasFields writes none value names cells × AllZip (IsRowOf writes none names) values later × (rows ≡ names ∷ cells ∷ later)
