use Rattle.tabled_table.proofs.Names.{greatest, length, lines_of, map, max, take, ◌≡◌}
use Rattle.tabled_table.proofs.iter_table.first_rows.tallest_cell.Given as goal

abbrev pub invariant-cells : goal.invariant-cells
invariant-cells g l = l.lines ≡ max 1 (greatest (map (λ text. length (lines_of text)) (take l.column (map g.C.CellText.text l.cells))))
