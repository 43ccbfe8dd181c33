use Rattle.tabled_line.proofs.Names.{Sends, fill, ◌-◌, ◌≤◌}
use Rattle.tabled_line.specs.Fill.{IsRun}
use Rattle.tabled_line.proofs.padding.write_run.Given as goal

abbrev pub invariant-loop-left : goal.invariant-loop-left
invariant-loop-left g l = record {
  sends : (run : IsRun l.run) → Sends (g.S.TextSink.sent l.initial.sink) (g.S.TextSink.sent l.sink) (fill run.c (l.count - l.left));
  within : l.left ≤ l.count;
}

abbrev pub decreases-loop-left : goal.decreases-loop-left
decreases-loop-left g l = l.left
