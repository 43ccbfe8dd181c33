-- The fields of values that are made of other values.
use Rattle.std.specs.Prelude.{◌≡◌, ℕ, List, [], ◌∷◌, ◌++◌, IfSome, IsUtf8}
use Rattle.std.specs.declared.option.Option.{Option}

-- a row is two lists of fields, one after the other, with P for the first and Q for the second
pub record Joined (P Q : List (List ℕ) → Type 0) (row : List (List ℕ)) : Type 0 where
  pub front : List (List ℕ)
  pub behind : List (List ℕ)
  pub whole : row ≡ front ++ behind
  pub of_front : P front
  pub of_behind : Q behind

-- a text is what `Display` writes, where that is known
abbrev pub Says : Option (List ℕ) → List ℕ → Type 0
Says known text = IfSome known (λ bytes. text ≡ bytes)

-- one field, of any text in UTF-8
pub record IsOneText (row : List (List ℕ)) : Type 0 where
  pub text : List ℕ
  pub utf8 : IsUtf8 text
  pub whole : row ≡ text ∷ []

-- strings with the property P were appended
pub record CellsAdded (P : List (List ℕ) → Type 0) (before after : List (List ℕ)) : Type 0 where
  pub texts : List (List ℕ)
  pub whole : after ≡ before ++ texts
  pub shown : P texts
