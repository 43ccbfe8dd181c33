-- The entities that a selection picks among `rows` rows and `columns` columns.
use Rattle.std.specs.Prelude.{ℕ, ◌-◌, ◌<◌, ◌&&◌, nat_lt, List, [], ◌∷◌, map, min, if◌then◌else◌, Option, Some, None}
use Rattle.std.specs.List.{flat_map, range_with_len}
use Rattle.std.specs.Option.{unwrap_or}
use Rattle.std.specs.Range.Bound.{end_index, start_index}
use Rattle.std.specs.declared.ops.Bound.{Bound}
use Rattle.tabled_base.specs.declared.objects.Place.{Place}
use Rattle.tabled_base.specs.declared.objects.Place.TheVariants.{At, Last}
use Rattle.tabled_base.specs.declared.position.Entity.{Entity}
use Rattle.tabled_base.specs.declared.position.Entity.TheVariants.{Cell, Column, Global, Row}
use Rattle.tabled_base.specs.declared.segment.Stretch.{Stretch}

-- an entity inside a number of rows and columns
abbrev pub IsPart : ℕ → ℕ → Entity → Type 0
IsPart rows columns Global = Unit {0}
IsPart rows columns (Row row) = row < rows
IsPart rows columns (Column column) = column < columns
IsPart rows columns (Cell row column) = (row < rows) × (column < columns)

-- the index of the selected row or column among `count`, if there is one
abbrev pub picked : Place → ℕ → List ℕ
picked (At index) count = if nat_lt index count then index ∷ [] else []
picked Last count = if nat_lt 0 count then (count - 1) ∷ [] else []

-- a cell, if it exists
abbrev pub picked_cell : ℕ → ℕ → ℕ → ℕ → List Entity
picked_cell row column rows columns =
    if nat_lt row rows && nat_lt column columns then Cell row column ∷ [] else []

-- the numbers from `from` on and below `to`
abbrev pub between : ℕ → ℕ → List ℕ
between from to = range_with_len from (to - from)

-- the numbers of a range that are below `count`
abbrev pub within : Bound ℕ → Bound ℕ → ℕ → List ℕ
within start end count = between (start_index start) (min (end_index end count) count)

-- the numbers of a stored range that are below `count`
abbrev pub stretch : Stretch → ℕ → List ℕ
stretch kept count = between kept.start (min (unwrap_or kept.end count) count)

-- a cell for each row and each column, row by row
abbrev pub block : List ℕ → List ℕ → List Entity
block rows columns = flat_map (λ row. map (Cell row) columns) rows

-- the entire table, or the cells of a block
abbrev pub segment : Option (Stretch × Stretch) → ℕ → ℕ → List Entity
segment None rows columns = Global ∷ []
segment (Some kept) rows columns = block (stretch kept.0 rows) (stretch kept.1 columns)
