use Rattle.std.proofs.Common.{arith, refl}
use Rattle.tabview_records.proofs.expanded.whole_layout.Goals as goal

pub returns-clause-ok : goal.returns-clause-ok
returns-clause-ok c = (omega (arith, c.if-name.false, c.if-value-name.false), refl)
