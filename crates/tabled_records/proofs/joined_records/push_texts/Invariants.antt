use Rattle.tabled_records.proofs.Names.{map, ◌++◌, ◌≡◌}
use Rattle.tabled_records.proofs.joined_records.push_texts.Given as goal

abbrev pub invariant-loop-cell : goal.invariant-loop-cell
invariant-loop-cell g l = l.texts ≡ l.initial.texts ++ map g.I.Item.CellText.text l.yielded
