use Rattle.tabled_base.proofs.Names.{take, ◌≡◌}
use Rattle.tabled_base.proofs.vec_records.clone_row.Given as goal

abbrev pub invariant-loop-cell : goal.invariant-loop-cell
invariant-loop-cell l = l.copy.items ≡ take l.cell-index l.row
