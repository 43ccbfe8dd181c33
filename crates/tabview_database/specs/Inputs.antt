-- What is read of an input, if it is known what that has left.
use Rattle.std.specs.Prelude.{◌≡◌, ℕ, List, Option, Some, None, take, ⊤}

-- all that it has left
abbrev pub IsRestOf : Option (List ℕ) → List ℕ → Type 0
IsRestOf None bytes = ⊤
IsRestOf (Some rest) bytes = bytes ≡ rest

-- the first bytes of that
abbrev pub IsStartOf : ℕ → Option (List ℕ) → List ℕ → Type 0
IsStartOf count None bytes = ⊤
IsStartOf count (Some rest) bytes = bytes ≡ take count rest
