-- Sizes at an index, and which of them a hint clears.
use Rattle.std.specs.Prelude.{ℕ, Bool, true, false, List, length, Option, Some, None, nat_lt, if◌then◌else◌}
use Rattle.tabled_base.specs.declared.position.Entity.{Entity}
use Rattle.tabled_base.specs.declared.position.Entity.TheVariants.{Global, Row, Column, Cell}
use Rattle.tabled_priority.specs.Permitted.{at}

-- the entry of a list at an index, if it has one
abbrev pub entry : List ℕ → ℕ → Option ℕ
entry xs i = if nat_lt i (length xs) then Some (at xs i) else None

-- the entry of a stored list
abbrev pub stored_at : Option (List ℕ) → ℕ → Option ℕ
stored_at None i = None
stored_at (Some sizes) i = entry sizes i

-- a hint for the whole table, a column or a cell clears the widths
abbrev pub clears_widths : Option Entity → Bool
clears_widths None = false
clears_widths (Some Global) = true
clears_widths (Some (Row row)) = false
clears_widths (Some (Column column)) = true
clears_widths (Some (Cell row column)) = true

-- a hint for the whole table, a row or a cell clears the heights
abbrev pub clears_heights : Option Entity → Bool
clears_heights None = false
clears_heights (Some Global) = true
clears_heights (Some (Row row)) = true
clears_heights (Some (Column column)) = false
clears_heights (Some (Cell row column)) = true

-- a stored list, or none if it is cleared
abbrev pub unless_cleared : Bool → Option (List ℕ) → Option (List ℕ)
unless_cleared clears sizes = if clears then None else sizes
