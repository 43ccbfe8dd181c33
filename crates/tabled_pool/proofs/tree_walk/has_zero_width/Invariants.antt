use Rattle.tabled_pool.proofs.Names.{drop, has_zero_width, map, drawn_part, ◌≡◌}
use Rattle.tabled_pool.proofs.tree_walk.has_zero_width.Given as goal

abbrev pub invariant-loop-piece : goal.invariant-loop-piece
invariant-loop-piece l = has_zero_width (map drawn_part (drop l.piece-index l.pieces)) ≡ has_zero_width (map drawn_part l.pieces)
