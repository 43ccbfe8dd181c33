use Rattle.std.proofs.Common.{◌≡◌, length}
use Rattle.tabview_cells.specs.Numbers.{skip_whole}
use Rattle.tabview_cells.proofs.numbers.skip_whole.Given as goal

abbrev pub invariant-digits : goal.invariant-digits
invariant-digits l = skip_whole l.rest ≡ skip_whole l.text

abbrev pub decreases-digits : goal.decreases-digits
decreases-digits l = length l.rest
