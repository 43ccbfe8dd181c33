use Rattle.std.proofs.Common.{arith, ◌∙◌}
use Rattle.tabview_read.proofs.Columns.{next-found, no-column}
use Rattle.tabview_read.proofs.chosen.Chosen.find.Goals as goal

pub returns-in-None-clause-missing : goal.returns-in-None-clause-missing
returns-in-None-clause-missing c = no-column _ _ c.args.self.now.wanted.now c.loop-name.name-index _ _ (omega arith) c.in_ok-name-in-None.ensures.ok c.in-None.ensures

pub loop-name-preserved : goal.loop-name-preserved
loop-name-preserved c =
    let i = c.loop-name.invariant in
    (next-found _ _ c.args.self.now.wanted.now c.loop-name.name-index _ _ _ _ _ i.0 (omega arith) c.in-Some.ensures c.in_ok-push-in-Some.ensures.column, c.push.ensures.wanted ∙ i.1)
