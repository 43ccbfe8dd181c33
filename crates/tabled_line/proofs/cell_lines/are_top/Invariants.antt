use Rattle.tabled_line.proofs.Names.{IsTop, ℕ, ◌<◌}
use Rattle.tabled_line.proofs.cell_lines.are_top.Given as goal

abbrev pub invariant-columns : goal.invariant-columns
invariant-columns g l = (k : ℕ) → k < l.column → IsTop ((g.R.Row.sheet l.row).style k)
