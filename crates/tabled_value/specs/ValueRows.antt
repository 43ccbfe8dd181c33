-- The records that values make.
use Rattle.std.specs.Prelude.{◌≡◌, ℕ, ◌∷◌, ◌++◌, [], List, length, map}
use Rattle.std.specs.List.{All, AllZip, flat_map, zip}

-- a row of name and string for each field
abbrev pub pairs : List (List ℕ) → List (List ℕ) → List (List (List ℕ))
pairs names texts = map (λ field. field.0 ∷ field.1 ∷ []) (zip names texts)

-- the cells of `count` values were appended, `width` cells each
pub record ValuesAdded {V : Type 0} (shows : V → List (List ℕ) → Type 0) (width : ℕ) (values : List V) (count : ℕ)
    (before all : List (List ℕ)) : Type 0 where
  pub rows : List (List (List ℕ))
  pub each : AllZip shows values rows
  pub lengths : All (λ row. length row ≡ width) rows
  pub number : length rows ≡ count
  pub whole : all ≡ before ++ flat_map (λ row. row) rows

-- there is a row for each field of each value
pub record FieldsAdded {V : Type 0} (shows : V → List (List ℕ) → Type 0) (names : List (List ℕ)) (values : List V)
    (all : List (List (List ℕ))) : Type 0 where
  pub rows : List (List (List ℕ))
  pub each : AllZip shows values rows
  pub whole : all ≡ flat_map (pairs names) rows
