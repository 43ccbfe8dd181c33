use Rattle.tabled_table.proofs.Names.{get_or, map, take, widest, ℕ, ◌<◌, ◌≡◌}
use Rattle.tabled_table.proofs.iter_table.first_rows.widest_cells.Given as goal

abbrev pub invariant-rows : goal.invariant-rows
invariant-rows g l =
    (k : ℕ) → k < l.count → get_or l.contents.items k 0 ≡ widest (take l.index (map (map g.C.CellText.text) l.rows)) k
