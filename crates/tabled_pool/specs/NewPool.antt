-- New pool tables, copies, and how an option changes one.
use Rattle.std.specs.Prelude.{◌≡◌, ℕ, List}
use Rattle.tabled_config.specs.declared.compact.CompactMultilineConfig.{CompactMultilineConfig}
use Rattle.tabled_config.specs.declared.sides.Indent.{Indent}
use Rattle.tabled_config.specs.Compact.{IsPlainMultiline, no_indent}
use Rattle.tabled_config.specs.Styles.{ascii}
use Rattle.tabled_size.specs.declared.complete_dimension.DimensionPriority.TheVariants.{List as Each}
use Rattle.tabled_pool.specs.declared.tree.TableValue.{TableValue}
use Rattle.tabled_pool.specs.Tree.{tree_of, tree_of_rows}
use Rattle.tabled_pool.specs.declared.pool_table.PoolTable.{PoolTable}
use Rattle.tabled_size.specs.declared.complete_dimension.PoolTableDimension.{PoolTableDimension}
use Rattle.tabled_records.specs.declared.empty.EmptyRecords.{EmptyRecords}

abbrev pub one_column : Indent
one_column = record { size = 1; fill = 32 }

-- ASCII borders, one column of padding on the left and right, no margin, texts at the left and the
-- top
pub record IsNewConfig (config : CompactMultilineConfig) : Type 0 where
  pub plain : CompactMultilineConfig
  pub is_plain : IsPlainMultiline plain
  pub set : config ≡ record plain {
    config = record plain.config {
      borders = ascii.borders;
      padding = record { left = one_column; right = one_column; top = no_indent; bottom = no_indent };
    };
  }

-- a value with the settings of a new table; all boxes share a surplus
pub record IsNewPool (value : TableValue) (table : PoolTable) : Type 0 where
  pub holds : table.value ≡ value
  pub config : IsNewConfig table.config
  pub dimension : table.dimension ≡ record { width = Each; height = Each }

-- rows of texts below each other, with the settings of a new table
pub record IsPoolOfRows (rows : List (List (List ℕ))) (table : PoolTable) : Type 0 where
  pub tree : tree_of table.value ≡ tree_of_rows rows
  pub config : IsNewConfig table.config
  pub dimension : table.dimension ≡ record { width = Each; height = Each }

-- the same texts in the same boxes, with the same settings
pub record IsCopy (table copy : PoolTable) : Type 0 where
  pub tree : tree_of copy.value ≡ tree_of table.value
  pub config : copy.config ≡ table.config
  pub dimension : copy.dimension ≡ table.dimension

-- ---- how an option changes a pool table: its settings change, its texts don't

-- the records that an option sees
abbrev pub no_records : EmptyRecords
no_records = record { rows = 0; columns = 0 }

-- the settings before and after an option, related by its change, its promise or its error
pub record IsAppliedToPool (changes : EmptyRecords → CompactMultilineConfig → PoolTableDimension → EmptyRecords
    → CompactMultilineConfig → PoolTableDimension → Type 0) (old new : PoolTable) : Type 0 where
  pub after : EmptyRecords
  pub changed : changes no_records old.config old.dimension after new.config new.dimension
  pub value : new.value ≡ old.value

-- a sum or product of an option exceeds `usize::MAX`
abbrev pub WasOutOfRange : (EmptyRecords → CompactMultilineConfig → PoolTableDimension → Type 0) → PoolTable → Type 0
WasOutOfRange out_of_range old = out_of_range no_records old.config old.dimension
