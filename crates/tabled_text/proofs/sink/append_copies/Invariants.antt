use Rattle.tabled_text.proofs.Names.{encode_utf8_all, replicate}
use Rattle.tabled_text.proofs.sink.append_copies.Given as goal

abbrev pub invariant-loop-i : goal.invariant-loop-i
invariant-loop-i g l = g.S.Sink.adds l.fn.out (encode_utf8_all (replicate l._i l.c)) l.out
