use Rattle.tabled_extended.proofs.Names.{drop, max, row_texts, widest_value, ◌≡◌}
use Rattle.tabled_extended.proofs.printing.widest_value.Given as goal

abbrev pub invariant-records : goal.invariant-records
invariant-records l = max l.columns (widest_value (row_texts (drop l.record-index l.records))) ≡ widest_value (row_texts l.records)
