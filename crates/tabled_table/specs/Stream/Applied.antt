-- What an option leaves of a streamed table: its source and its configuration change, and its other
-- settings stay. The sizes that the option sees are all zero.
use Rattle.std.specs.Prelude.{◌≡◌}
use Rattle.tabled_config.specs.declared.compact.CompactConfig.{CompactConfig}
use Rattle.tabled_size.specs.declared.const_dimension.ZeroDimension.{ZeroDimension}
use Rattle.tabled_table.specs.declared.iter_table.IterTable.{IterTable}

-- an option's change, or what it leaves when it fails
pub record IsAppliedToStream {I : Type 0} (changes : I → CompactConfig → ZeroDimension → I → CompactConfig → ZeroDimension → Type 0)
    (old new : IterTable I) : Type 0 where
  pub before : ZeroDimension
  pub after : ZeroDimension
  pub changed : changes old.records old.config before new.records new.config after
  pub settings : new.settings ≡ old.settings

-- a sum or product of an option exceeds the greatest `usize`
pub record WasOutOfRange {I : Type 0} (out_of_range : I → CompactConfig → ZeroDimension → Type 0) (old : IterTable I) : Type 0 where
  pub before : ZeroDimension
  pub passed : out_of_range old.records old.config before
