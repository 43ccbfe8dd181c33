use Rattle.tabled.proofs.Names.{[]}
use Rattle.std.specs.Prelude.{unwrap_or}
use Rattle.tabled.proofs.program.print_through.Given as goal

abbrev pub ghosts-print_blocked : goal.ghosts-print_blocked
ghosts-print_blocked g a = record { name = a.sink.writer.ghost_name; held = unwrap_or (g.O.Write.contents a.sink.writer.now) [] }
