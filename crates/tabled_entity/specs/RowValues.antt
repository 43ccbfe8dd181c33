-- The values of a row's cells.
use Rattle.std.specs.Prelude.{ℕ, List, Option, slice_get, unwrap_or}
use Rattle.std.specs.Option.{option_and_then, option_map}
use Rattle.tabled_base.specs.declared.position.Entity.{Entity}
use Rattle.tabled_entity.specs.RowChanges.{latest_at}
use Rattle.tabled_entity.specs.RunMap.{in_dense}
use Rattle.tabled_entity.specs.declared.row_values.RowValues.{RowValues}
use Rattle.tabled_entity.specs.declared.row_values.RunValues.{RunValues}
use Rattle.tabled_entity.specs.declared.row_values.RowValues.TheVariants.{Run, Set, Uniform}

module _ {T : Type 0} where
  -- the value of the change at an index, or else that of the entire table
  abbrev pub value_of : T → List (Entity × T) → Option ℕ → T
  value_of global changes place =
      unwrap_or (option_map (λ change. change.1) (option_and_then (slice_get changes) place)) global

  -- the value of the cell in a column: of the change for it, or else of all others
  abbrev pub run_at : RunValues T → ℕ → T
  run_at values column =
      unwrap_or (option_map (λ change. change.1) (in_dense values.first values.changes.now column)) values.global.now

  -- the value of the cell in a column
  abbrev pub value_at : RowValues T → ℕ → T
  value_at (Uniform value) column = value.now
  value_at (Run values) column = run_at values column
  value_at (Set values) column =
      value_of values.global.now values.changes.now (latest_at values.latest column)
