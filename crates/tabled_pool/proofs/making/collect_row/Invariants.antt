use Rattle.tabled_pool.proofs.Names.{leaf, map, tree_of, ◌≡◌}
use Rattle.tabled_pool.proofs.making.collect_row.Given as goal

abbrev pub invariant-loop-cell : goal.invariant-loop-cell
invariant-loop-cell g l = map tree_of l.row.items ≡ map leaf (map g.I.Item.CellText.text l.yielded)
