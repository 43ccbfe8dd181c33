use Rattle.tabled_base.proofs.Names.{row_texts, ◌++◌, ◌≡◌}
use Rattle.tabled_base.specs.Slices.{slices_left}
use Rattle.tabled_base.proofs.vec_records.VecRecords+Text+String.copied_rows.Given as goal

abbrev pub invariant-loop-row : goal.invariant-loop-row
invariant-loop-row l = row_texts l.copy.items ++ slices_left l.row-iterator ≡ l.self
