use Rattle.tabled_extended.proofs.Names.{map, ◌≡◌}
use Rattle.tabled_extended.proofs.extended_table.collect_row.Given as goal

abbrev pub invariant-loop-cell : goal.invariant-loop-cell
invariant-loop-cell g l = l.row.items ≡ map g.I.Item.CellText.text l.yielded
