use Rattle.std.proofs.Common.{◌≡◌, map, take}
use Rattle.tabview_options.specs.Asked.{aligned}
use Rattle.tabview_options.proofs.options.sides.Given as goal

abbrev pub invariant-loop-word : goal.invariant-loop-word
invariant-loop-word l = map (λ s. aligned s.0.now s.1) l.list.items ≡ map (λ s. s.now) (take l.word-index l.words)
