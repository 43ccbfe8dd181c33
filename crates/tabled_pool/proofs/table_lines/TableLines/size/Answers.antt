use Rattle.tabled_pool.proofs.Names.{plan_of, sym}
use Rattle.tabled_pool.proofs.Totals.{drawn-length}
use Rattle.tabled_pool.proofs.table_lines.TableLines.size.Goals as goal

pub returns-in-Placed-clause-height : goal.returns-in-Placed-clause-height
returns-in-Placed-clause-height c = rw c.in-Placed.is (sym (drawn-length (plan_of c.in-Placed.drawing.now)))
