use Rattle.tabled_records.proofs.Names.{arith, ◌-◌}
use Rattle.tabled_records.proofs.ViewRuns.{may_more, none_passed, one_passed, passed_goes}
use Rattle.tabled_records.proofs.limits.LaterRowsIterator.next.Goals as goal

pub loop-self-init : goal.loop-self-init
loop-self-init g c = none_passed _ _ _ _ _ _ _ c.args.self.now c.requires

pub walk_rest-requires-clause-can : goal.walk_rest-requires-clause-can
walk_rest-requires-clause-can g c = ((may_more _ _ _ _ _ g.I.Item.IntoIter.Iterator.next_gives _ c.in_ok-row.row c.in_ok-row.was
    c.loop-self.invariant.may c.next.ensures.steps c.next.ensures.goes).0 c.into_iter.result c.into_iter.ensures.into_iter_gives).0

pub walk_rest-requires-clause-finite : goal.walk_rest-requires-clause-finite
walk_rest-requires-clause-finite g c = ((may_more _ _ _ _ _ g.I.Item.IntoIter.Iterator.next_gives _ c.in_ok-row.row c.in_ok-row.was
    c.loop-self.invariant.may c.next.ensures.steps c.next.ensures.goes).0 c.into_iter.result c.into_iter.ensures.into_iter_gives).1

pub loop-self-preserved : goal.loop-self-preserved
loop-self-preserved g c =
    one_passed _ _ _ _ _ _ _ (c.loop-self.self.left - 1) c.in_ok-row.row c.in_ok-row.was
    c.loop-self.invariant c.next.ensures.steps c.next.ensures.goes (
      c.walk_rest.ensures.walked.0,
      record {
        iterator = c.into_iter.result;
        made = c.into_iter.ensures.into_iter_gives;
        drained = (c.walk_rest.new.cells, c.walk_rest.ensures.walked.1);
      },
    )
    (omega (arith, c.loop-self-test.true))

pub returns-clause-goes : goal.returns-clause-goes
returns-clause-goes g c =
    passed_goes _ _ _ _ _ _ _ c.loop-self.self.left c.next-2.result c.loop-self.invariant c.next-2.ensures.steps c.next-2.ensures.goes
