use Rattle.tabled_extended.proofs.Names.{row_texts, take, ◌≡◌}
use Rattle.tabled_extended.proofs.extended_table.ExtendedTable.clone.Given as goal

abbrev pub invariant-loop-record : goal.invariant-loop-record
invariant-loop-record g l = row_texts l.records.items ≡ take l.record-index (row_texts l.all)
