use Rattle.tabled_grid.proofs.Names.{IsHeld, columns, ℕ, ◌<◌}
use Rattle.tabled_grid.proofs.checks.check_narrow.Given as goal

abbrev pub invariant-rows : goal.invariant-rows
invariant-rows g l = (r c : ℕ) → r < l.row → c < columns l.grid.cells → IsHeld l.grid r c
