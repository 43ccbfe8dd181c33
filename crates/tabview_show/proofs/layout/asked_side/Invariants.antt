use Rattle.std.proofs.Common.{IfSome, map}
use Rattle.std.specs.List.{Contains}
use Rattle.tabview_show.proofs.layout.asked_side.Given as goal

abbrev pub invariant-loop-word : goal.invariant-loop-word
invariant-loop-word l = IfSome l.side (Contains (map (λ s. s.1) l.look.sides.items))
