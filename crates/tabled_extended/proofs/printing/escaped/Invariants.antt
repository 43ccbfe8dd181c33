use Rattle.tabled_extended.proofs.Names.{escape, flat_map, string_bytes, ◌≡◌}
use Rattle.tabled_extended.proofs.printing.escaped.Given as goal

abbrev pub invariant-characters : goal.invariant-characters
invariant-characters l = string_bytes l.answer ≡ flat_map escape l.yielded
