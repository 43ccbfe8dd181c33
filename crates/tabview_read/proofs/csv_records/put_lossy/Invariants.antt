use Rattle.std.proofs.Common.{◌≡◌, map, take}
use Rattle.std.specs.Str.Lossy.{utf8_lossy}
use Rattle.csv.specs.Records.{fields_of}
use Rattle.tabview_read.proofs.csv_records.put_lossy.Given as goal

abbrev pub invariant-loop-field : goal.invariant-loop-field
invariant-loop-field l = (l.field-iterator.row.now ≡ l.bytes) × (fields_of l.cells ≡ map utf8_lossy (take l.field-iterator.at (fields_of l.bytes)))
