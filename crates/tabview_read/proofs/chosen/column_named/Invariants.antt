use Rattle.std.proofs.Common.{ℕ, ◌<◌}
use Rattle.csv.specs.Records.{fields_of}
use Rattle.tabview_read.specs.Columns.{IsNamed}
use Rattle.tabview_read.proofs.chosen.column_named.Given as goal

abbrev pub invariant-loop-column : goal.invariant-loop-column
invariant-loop-column l = (k : ℕ) → k < l.column → ¬ (IsNamed (fields_of l.names) l.name k)
