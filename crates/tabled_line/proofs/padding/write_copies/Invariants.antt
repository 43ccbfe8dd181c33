use Rattle.tabled_line.proofs.Names.{Sends, fill}
use Rattle.tabled_line.proofs.padding.write_copies.Given as goal

abbrev pub invariant-copies : goal.invariant-copies
invariant-copies g l = Sends (g.S.TextSink.sent l.initial.sink) (g.S.TextSink.sent l.sink) (fill l.fn.c l._i)
