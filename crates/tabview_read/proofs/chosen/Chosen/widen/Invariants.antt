use Rattle.std.proofs.Common.{◌≡◌}
use Rattle.tabview_read.proofs.Columns.{ShownBefore}
use Rattle.tabview_read.proofs.chosen.Chosen.widen.Given as goal

abbrev pub invariant-loop-column : goal.invariant-loop-column
invariant-loop-column l = ShownBefore l.initial.self.columns.items l.count l.column l.self.columns.items × (l.self.wanted ≡ l.initial.self.wanted)
