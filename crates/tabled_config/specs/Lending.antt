-- A mutable borrow of a configuration's settings.
use Rattle.std.specs.Borrow.{Fml, Lends, MutBor}
use Rattle.tabled_config.specs.declared.colored.ColoredConfig.{ColoredConfig}
use Rattle.tabled_config.specs.declared.spanned.SpannedConfig.{SpannedConfig}
use Rattle.tabled_config.specs.contracts.colored.ColoredConfig.{the_row}
use Rattle.tabled_config.specs.contracts.spanned.SpannedConfig.{the_row as config_row}

-- after the borrow, the `ColoredConfig` has the settings that the reference leaves
abbrev pub LendsConfig : MutBor ColoredConfig → MutBor SpannedConfig → Fml
LendsConfig lender lent = Lends the_row config_row lender lent (λ config. record { config = config })
