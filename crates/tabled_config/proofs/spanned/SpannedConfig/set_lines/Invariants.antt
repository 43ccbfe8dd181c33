use Rattle.std.proofs.Common.{◌≡◌, take}
use Rattle.tabled_config.specs.StyleChanges.{lines_in_turn}
use Rattle.tabled_config.proofs.spanned.SpannedConfig.set_lines.Given as goal

abbrev pub invariant-lines : goal.invariant-lines
invariant-lines l = l.all ≡ lines_in_turn (take l.row-index l.lines)
