use Rattle.std.proofs.Common.{◌≡◌}
use Rattle.tabview_read.specs.Columns.{names_in}
use Rattle.tabview_read.proofs.Columns.{FoundFirst}
use Rattle.tabview_read.proofs.chosen.Chosen.find.Given as goal

abbrev pub invariant-loop-name : goal.invariant-loop-name
invariant-loop-name l =
    FoundFirst (names_in l.names) l.count l.initial.self.wanted.now l.name-index l.initial.self.columns.items l.self.columns.items
    × (l.self.wanted ≡ l.initial.self.wanted)
