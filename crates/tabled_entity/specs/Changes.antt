-- The values that were set, in order, and the value of each cell.
use Rattle.std.specs.Prelude.{ℕ, ◌==◌, ◌&&◌, if◌then◌else◌, Bool, true, List, [], ◌∷◌, Option, Some, None}
use Rattle.tabled_base.specs.declared.position.Entity.{Entity}
use Rattle.tabled_base.specs.declared.position.Entity.TheVariants.{Global, Row, Column, Cell}

-- one setting of a table: the value of the entire table, and the values that were set for parts
-- since then, the latest first
pub record Changes (T : Type 0) : Type 0 where
  pub global : T
  pub parts : List (Entity × T)

-- whether an entity covers the cell in a row and a column
abbrev pub covers : Entity → ℕ → ℕ → Bool
covers Global row column = true
covers (Row r) row column = r == row
covers (Column c) row column = c == column
covers (Cell r c) row column = r == row && c == column

module _ {T : Type 0} where
  -- the value of the first part that covers a cell, or else that of the entire table
  abbrev pub first_covering : T → List (Entity × T) → ℕ → ℕ → T
  first_covering global [] row column = global
  first_covering global (part ∷ earlier) row column =
      if covers part.0 row column then part.1 else first_covering global earlier row column

  -- the latest value that covers a cell
  abbrev pub setting_at : Changes T → ℕ → ℕ → T
  setting_at changes row column = first_covering changes.global changes.parts row column

  -- the value of the entire table, if no value was set for a part
  abbrev pub if_unparted : T → List (Entity × T) → Option T
  if_unparted global [] = Some global
  if_unparted global (part ∷ earlier) = None

  -- the value of every cell, if no value was set for a part
  abbrev pub shared : Changes T → Option T
  shared changes = if_unparted changes.global changes.parts

  -- the settings after a change. A value for the entire table replaces all others
  abbrev pub with_change : Changes T → Entity → T → Changes T
  with_change changes Global value = record { global = value; parts = [] }
  with_change changes (Row r) value = record changes { parts = (Row r, value) ∷ changes.parts }
  with_change changes (Column c) value = record changes { parts = (Column c, value) ∷ changes.parts }
  with_change changes (Cell r c) value = record changes { parts = (Cell r c, value) ∷ changes.parts }

  -- one value for the entire table
  abbrev pub for_all : T → Changes T
  for_all value = record { global = value; parts = [] }
