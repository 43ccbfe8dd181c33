use Rattle.std.proofs.Common.{take}
use Rattle.tabview_show.specs.Asked.{AreLaid}
use Rattle.tabview_show.proofs.layout.columns_of.Given as goal

abbrev pub invariant-loop-index : goal.invariant-loop-index
invariant-loop-index l = AreLaid l.options.choice.numbers l.options.look.sides.items (take l.index l.sheet.kinds.items) l.columns.items
