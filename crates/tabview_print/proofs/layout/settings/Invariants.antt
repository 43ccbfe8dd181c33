use Rattle.std.proofs.Common.{◌≡◌, drop}
use Rattle.tabview_print.specs.Layouts.{with_sides}
use Rattle.tabview_print.proofs.layout.settings.Given as goal

abbrev pub invariant-loop-column : goal.invariant-loop-column
invariant-loop-column l = with_sides l.config l.column (drop l.column l.columns) ≡ with_sides l.initial.config 0 l.columns
