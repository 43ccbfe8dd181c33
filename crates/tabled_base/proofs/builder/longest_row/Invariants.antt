use Rattle.tabled_base.proofs.Names.{drop, longest, max, row_texts, ◌≡◌}
use Rattle.tabled_base.proofs.builder.longest_row.Given as goal

abbrev pub invariant-loop-row : goal.invariant-loop-row
invariant-loop-row l = max l.columns (longest (row_texts (drop l.row-index l.rows))) ≡ longest (row_texts l.rows)
