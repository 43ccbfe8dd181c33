-- The settings of a table that is printed while its rows are read.
use Rattle.std.specs.Prelude.{◌≡◌, ℕ, Some}
use Rattle.tabled_config.specs.declared.compact.CompactConfig.{CompactConfig}
use Rattle.tabled_config.specs.declared.style.Style.{Style}
use Rattle.tabled_line.specs.NewConfig.{IsNewConfig}
use Rattle.tabled_table.specs.declared.iter_table.settings.StreamSettings.{StreamSettings}
use Rattle.tabled_table.specs.Stream.NewTable.{new_settings}

-- some rows are read ahead, and a cell that is cut ends in `…`
abbrev pub stream_settings : ℕ → StreamSettings
stream_settings measured = record new_settings { sniff = measured; mark = Some 0x2026 }

-- a new configuration with the borders of a style
pub record IsStyled (style : Style) (config : CompactConfig) : Type 0 where
  pub new : CompactConfig
  pub is_new : IsNewConfig new
  pub styled : config ≡ record new { borders = style.borders }
