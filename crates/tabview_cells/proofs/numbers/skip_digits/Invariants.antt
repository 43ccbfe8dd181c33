use Rattle.std.proofs.Common.{◌≡◌, length}
use Rattle.tabview_cells.specs.Numbers.{skip_digits}
use Rattle.tabview_cells.proofs.numbers.skip_digits.Given as goal

abbrev pub invariant-digits : goal.invariant-digits
invariant-digits l = skip_digits l.rest ≡ skip_digits l.text

abbrev pub decreases-digits : goal.decreases-digits
decreases-digits l = length l.rest
