use Rattle.std.specs.Io.KnownBytes.{Consumes}
use Rattle.tabled.proofs.program.read_text.Given as goal

abbrev pub invariant-reads : goal.invariant-reads
invariant-reads g l = Consumes (g.I.Read.remaining l.initial.input) (g.I.Read.remaining l.input) l.bytes.items
