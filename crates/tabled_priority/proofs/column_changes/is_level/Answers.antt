use Rattle.tabled_priority.proofs.Names.{arith, at, in_range}
use Rattle.tabled_priority.proofs.Optimal.{HasLeastGreatest-from_level}
use Rattle.tabled_priority.proofs.column_changes.is_level.Goals as goal

pub returns-clause-least : goal.returns-clause-least
returns-clause-least c = λ _. HasLeastGreatest-from_level c.args.old.now c.args.mins.now c.args.new.now (record {
  permitted = c.in-Some.ensures.permitted;
  flat = λ i j above lowered. let inside = in_range c.args.old.now j (at c.args.new.now j) lowered in
      let a = c.in-Some.ensures.most i above in let b = c.loop-place.invariant j (omega arith) lowered in omega arith;
})
