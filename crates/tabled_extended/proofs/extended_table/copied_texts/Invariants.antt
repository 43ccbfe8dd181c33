use Rattle.tabled_extended.proofs.Names.{take, ◌≡◌}
use Rattle.tabled_extended.proofs.extended_table.copied_texts.Given as goal

abbrev pub invariant-loop-text : goal.invariant-loop-text
invariant-loop-text l = l.copy.items ≡ take l.text-index l.texts
