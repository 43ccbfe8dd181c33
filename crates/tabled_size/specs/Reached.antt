-- The known sizes of the columns or rows of a table.
use Rattle.std.specs.Prelude.{ℕ, List, [], ◌∷◌, map, Option, Some, None}
use Rattle.std.specs.List.{range_with_len}

-- the sizes before the first missing one
abbrev pub leading : List (Option ℕ) → List ℕ
leading [] = []
leading (None ∷ rest) = []
leading (Some size ∷ rest) = size ∷ leading rest

-- the sizes at the first `count` indices, up to the first missing one
unfoldable pub reached : (ℕ → Option ℕ) → ℕ → List ℕ
reached size_at count = leading (map size_at (range_with_len 0 count))
