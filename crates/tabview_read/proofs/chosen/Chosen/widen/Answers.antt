use Rattle.std.proofs.Common.{arith, sym, ◌∙◌}
use Rattle.tabview_read.proofs.Columns.{all-shown, one-shown}
use Rattle.tabview_read.proofs.chosen.Chosen.widen.Goals as goal

pub loop-column-preserved : goal.loop-column-preserved
loop-column-preserved c =
    let i = c.loop-column.invariant in
    (one-shown _ _ _ _ _ i.0 (omega arith) c.loop-column-test.true c.in_ok-push.ensures.column, c.push.ensures.wanted ∙ i.1)

pub returns-after-loop-column-clause-widened : goal.returns-after-loop-column-clause-widened
returns-after-loop-column-clause-widened c =
    let i = c.loop-column.invariant in
    all-shown c.args.self.now.wanted.now _ _ _ _ (sym c.is_empty.ensures ∙ c.if-is_empty.true) i.0 (omega arith) c.loop-column-test.false (omega arith)
