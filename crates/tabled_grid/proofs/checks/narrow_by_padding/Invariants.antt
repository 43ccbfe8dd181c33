use Rattle.tabled_grid.proofs.Names.{IsHeld, ℕ, ◌<◌}
use Rattle.tabled_grid.proofs.checks.narrow_by_padding.Given as goal

abbrev pub invariant-columns : goal.invariant-columns
invariant-columns g l = (c : ℕ) → c < l.column → IsHeld l.grid l.row c
