use Rattle.tabled_pool.proofs.Names.{drop, map, owner, drawn_part, ◌≡◌}
use Rattle.tabled_pool.proofs.sweep.find.Given as goal

abbrev pub invariant-loop-number : goal.invariant-loop-number
invariant-loop-number l = owner (map drawn_part (drop l.number l.pieces)) l.x l.y ≡ owner (map drawn_part l.pieces) l.x l.y
