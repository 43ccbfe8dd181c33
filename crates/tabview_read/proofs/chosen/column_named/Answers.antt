use Rattle.std.proofs.Common.{arith}
use Rattle.csv.specs.Records.{fields_of}
use Rattle.tabview_read.proofs.Columns.{none-named, unnamed}
use Rattle.tabview_read.proofs.chosen.column_named.Goals as goal

pub returns-in_default : goal.returns-in_default
returns-in_default c = rw c.in_default.is (none-named c.args.name.now)

pub returns : goal.returns
returns c = rw c.in-Some.is (unnamed (fields_of c.in-Some.names.now) c.args.name.now c.loop-column.column (omega arith) c.loop-column.invariant)
