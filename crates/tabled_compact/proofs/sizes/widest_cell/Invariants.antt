use Rattle.tabled_compact.proofs.Names.{map, take, widest_cell, ◌≡◌}
use Rattle.tabled_compact.proofs.sizes.widest_cell.Given as goal

abbrev pub invariant-rows : goal.invariant-rows
invariant-rows g l = l.widest ≡ widest_cell (take l.row-index (map (map g.T.CellText.text) l.rows)) l.column
