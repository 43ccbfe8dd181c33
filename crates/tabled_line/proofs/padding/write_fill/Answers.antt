use Rattle.tabled_line.proofs.Names.{lit<, refl}
use Rattle.tabled_line.proofs.padding.write_fill.Goals as goal

pub write_run-requires : goal.write_run-requires
unfolding lib.Utf8.encode
write_run-requires g c = record { c = 45; ascii = lit< tt; whole = refl }

pub returns-in-45 : goal.returns-in-45
unfolding lib.Utf8.encode
returns-in-45 g c = rw c.in-45.is (c.write_run.ensures (record { c = 45; ascii = lit< tt; whole = refl }))
