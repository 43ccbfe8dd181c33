-- Tables whose settings separate their cells, whatever the cells contain.
use Rattle.std.specs.Prelude.{◌≡◌, ℕ, ◌<◌, ◌≤◌, Some}
use Rattle.tabled_text.specs.Plain.{IsAdditiveColumn}
use Rattle.tabled_config.specs.declared.borders.HorizontalLine.{HorizontalLine}
use Rattle.tabled_config.specs.declared.spanned.SpannedConfig.{SpannedConfig}
use Rattle.tabled_config.specs.Settings.{frame, rule_at, style_at}
use Rattle.tabled_line.specs.Apart.{AreApartCells, IsApartFrame}
use Rattle.tabled_line.specs.Additive.{IsAdditiveRule}

-- the settings of a table with `rows` rows and `count` columns separate its cells; horizontal lines
-- and the lines of margins are additive
pub record IsApartConfig (config : SpannedConfig) (rows count : ℕ) : Type 0 where
  pub margin_top : IsAdditiveColumn (frame config).margin.top.fill
  pub margin_bottom : IsAdditiveColumn (frame config).margin.bottom.fill
  pub rules : (i : ℕ) → i ≤ rows → (line : HorizontalLine) → rule_at config rows i ≡ Some line → IsAdditiveRule line
  pub cells : (row : ℕ) → row < rows → AreApartCells (frame config) count (style_at config row)
  pub frame : IsApartFrame (frame config)
