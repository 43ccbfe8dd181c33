-- The settings of a new table.
use Rattle.std.specs.Prelude.{ℕ}
use Rattle.tabled_config.specs.declared.sides.Indent.{Indent}
use Rattle.tabled_config.specs.declared.spanned.SpannedConfig.{SpannedConfig}
use Rattle.tabled_entity.specs.Changes.{for_all}
use Rattle.tabled_config.specs.Spanned.{new_spanned}
use Rattle.tabled_config.specs.Styles.{ascii}

-- an indent of spaces
abbrev pub spaced : ℕ → Indent
spaced size = record { size = size; fill = 32 }

-- ASCII borders, no margin, one column of padding on the left and right
unfoldable pub new_config : SpannedConfig
new_config =
    record new_spanned {
      borders = ascii.borders;
      padding = for_all (record { left = spaced 1; right = spaced 1; top = spaced 0; bottom = spaced 0 });
    }
