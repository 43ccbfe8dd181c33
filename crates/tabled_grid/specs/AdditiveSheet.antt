-- Tables whose settings consist of additive characters of one column.
use Rattle.std.specs.Prelude.{◌≡◌, ℕ, ◌<◌, ◌≤◌, Some}
use Rattle.tabled_config.specs.declared.borders.HorizontalLine.{HorizontalLine}
use Rattle.tabled_config.specs.declared.spanned.SpannedConfig.{SpannedConfig}
use Rattle.tabled_config.specs.Settings.{frame, rule_at, style_at}
use Rattle.tabled_line.specs.Additive.{IsAdditiveFrame, IsAdditiveRule, IsAdditiveStyle}

-- the borders, fills and margins of a table with `rows` rows and `count` columns are additive
-- characters of one column: plain ones or separators
pub record IsAdditiveConfig (config : SpannedConfig) (rows count : ℕ) : Type 0 where
  pub frame : IsAdditiveFrame (frame config)
  pub rules : (i : ℕ) → i ≤ rows → (line : HorizontalLine) → rule_at config rows i ≡ Some line → IsAdditiveRule line
  pub styles : (row column : ℕ) → row < rows → column < count → IsAdditiveStyle (style_at config row column)
