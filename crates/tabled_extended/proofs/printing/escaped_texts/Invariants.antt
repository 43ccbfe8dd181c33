use Rattle.tabled_extended.proofs.Names.{cow_str_bytes, escaped, map, ◌≡◌}
use Rattle.tabled_extended.proofs.printing.escaped_texts.Given as goal

abbrev pub invariant-texts : goal.invariant-texts
invariant-texts l = l.row.items ≡ map escaped (map cow_str_bytes l.yielded)
