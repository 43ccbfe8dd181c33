use Rattle.tabled_line.proofs.Names.{lit<, refl}
use Rattle.tabled_line.proofs.padding.write_spaces.Goals as goal

pub write_run-requires : goal.write_run-requires
unfolding lib.Utf8.encode
write_run-requires g c = record { c = 32; ascii = lit< tt; whole = refl }

pub returns : goal.returns
unfolding lib.Utf8.encode
returns g c = c.write_run.ensures (record { c = 32; ascii = lit< tt; whole = refl })
