use Rattle.std.proofs.Common.{◌≡◌, map, string_bytes}
use Rattle.tabview_records.specs.Records.{column_numbers}
use Rattle.tabview_records.proofs.rows.column_numbers.Given as goal

abbrev pub invariant-loop-column : goal.invariant-loop-column
invariant-loop-column l = map string_bytes l.numbers.items ≡ column_numbers l.column
