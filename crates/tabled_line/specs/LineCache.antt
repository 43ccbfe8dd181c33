-- What is cached for later lines.
use Rattle.std.specs.Prelude.{◌≡◌, ◌∷◌, true, IfSome, Some}
use Rattle.tabled_config.specs.declared.borders.HorizontalLine.{HorizontalLine}
use Rattle.tabled_line.specs.declared.line_printer.LineCache.{LineCache}
use Rattle.tabled_line.specs.declared.line_printer.CachedRule.{CachedRule}
use Rattle.tabled_line.specs.Slots.{IsTemplateOf}
use Rattle.tabled_line.specs.Buffers.{buffer_text}
use Rattle.tabled_line.specs.Row.{ColumnSheet, rule_line}

-- if the cached line is complete, its text is the horizontal line with a line feed before it
abbrev pub IsCachedRule : ColumnSheet → CachedRule → Type 0
IsCachedRule columns kept =
    (line : HorizontalLine) → kept.line ≡ Some line → kept.whole ≡ true → buffer_text kept.buffer ≡ 10 ∷ rule_line columns line

-- the cached horizontal line and the row template belong to the columns
abbrev pub IsCacheOf : ColumnSheet → LineCache → Type 0
IsCacheOf columns kept = IsCachedRule columns kept.rule × IfSome kept.row (IsTemplateOf columns)
