use Rattle.std.proofs.Common.{◌≡◌, map, take}
use Rattle.tabled_c.proofs.cells.row_of.Given as goal

abbrev pub invariant-loop-text : goal.invariant-loop-text
invariant-loop-text l = l.row.items ≡ map (λ t. t.now) (take l.text-index l.texts)
