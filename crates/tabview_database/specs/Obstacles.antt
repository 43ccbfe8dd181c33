-- The objects of a schema that can't be read.
use Rattle.std.specs.Prelude.{Bool, true, false}
use Rattle.tabview_database.specs.declared.schema.Obstacle.{Obstacle}
use Rattle.tabview_database.specs.declared.schema.Obstacle.TheVariants.{VirtualTable, View, Table, Index, Trigger}

-- an object with rows, which can't be shown
abbrev pub has_rows : Obstacle → Bool
has_rows VirtualTable = true
has_rows View = true
has_rows Table = true
has_rows Index = false
has_rows Trigger = false
