use Rattle.tabled_pool.proofs.Names.{arith, plan_of}
use Rattle.tabled_pool.proofs.Totals.{drawn-at, drawn-length}
use Rattle.tabled_pool.proofs.table_lines.TableLines.line.Goals as goal

pub invariant_of-result : goal.invariant_of-result
invariant_of-result c =
    let h = rw c.in-Placed.is at c.requires.inside in
    record {
      inside = omega (arith, h, drawn-length (plan_of c.in-Placed.drawing.now));
      sized = rw c.in-Placed.is at c.requires.sized;
      tall = rw c.in-Placed.is at c.requires.swept;
    }

pub returns-in-Placed : goal.returns-in-Placed
returns-in-Placed c =
    let t = plan_of c.in-Placed.drawing.now in
    let h = rw c.in-Placed.is at c.requires.inside in
    rw c.in-Placed.is (drawn-at t c.args.y (omega (arith, h, drawn-length t)))
