-- The configuration of a new table that is printed while its rows are read.
use Rattle.std.specs.Prelude.{◌≡◌}
use Rattle.tabled_config.specs.declared.sides.Indent.{Indent}
use Rattle.tabled_config.specs.declared.sides.Sides.{Sides}
use Rattle.tabled_config.specs.declared.alignment.AlignmentHorizontal.TheVariants.{Left}
use Rattle.tabled_config.specs.declared.compact.CompactConfig.{CompactConfig}
use Rattle.tabled_config.specs.Compact.{IsPlainCompact, no_indent}
use Rattle.tabled_config.specs.Styles.{ascii}

-- one column on the left and right
abbrev pub one_beside : Sides Indent
one_beside =
    let one : Indent = record { size = 1; fill = 32 } in
    record { left = one; right = one; top = no_indent; bottom = no_indent }

-- ASCII borders, one column of padding on the left and right, text at the left; otherwise a new
-- configuration
pub record IsNewConfig (config : CompactConfig) : Type 0 where
  pub plain : CompactConfig
  pub is_plain : IsPlainCompact plain
  pub set : config ≡ record plain { padding = one_beside; borders = ascii.borders; alignment_horizontal = Left }
