-- What an option changes in a table's configuration.
use Rattle.std.specs.Prelude.{◌≡◌, ℕ, List, [], ◌∷◌, Option, Some, None}
use Rattle.tabled_base.specs.declared.error.TableError.{TableError}
use Rattle.tabled_base.specs.declared.error.TableError.TheVariants.{Memory}
use Rattle.tabled_config.specs.declared.borders.HorizontalLine.{HorizontalLine}
use Rattle.tabled_config.specs.declared.colored.ColoredConfig.{ColoredConfig}
use Rattle.tabled_config.specs.declared.spanned.SpannedConfig.{SpannedConfig}
use Rattle.tabled_config.specs.declared.style.Style.{Style}

module _ {R C D : Type 0} where
  -- the configuration is replaced, and nothing else changes
  abbrev pub Becomes : C → R → D → R → C → D → Type 0
  Becomes config records sizes records' config' sizes' = (records' ≡ records) × ((config' ≡ config) × (sizes' ≡ sizes))

  -- an allocation failed, and nothing changes
  abbrev pub Stays : TableError → R → C → D → R → C → D → Type 0
  Stays error records config sizes records' config' sizes' = (error ≡ Memory) × Becomes config records sizes records' config' sizes'

-- the configuration of a `Table` with these settings
abbrev pub colored : SpannedConfig → ColoredConfig
colored settings = record { config = settings }

-- the lines that a style sets by index
abbrev pub lines_below : Option HorizontalLine → List (ℕ × HorizontalLine)
lines_below None = []
lines_below (Some line) = (1, line) ∷ []

-- the borders of a style, and its lines by index in place of all others
abbrev pub with_style : SpannedConfig → Style → SpannedConfig
with_style config style = record config { borders = style.borders; lines = lines_below style.below_first }
