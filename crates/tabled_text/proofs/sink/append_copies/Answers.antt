use Rattle.tabled_text.proofs.Names.{encode_utf8, encode_utf8_all, replicate, subst}
use Rattle.tabled_text.proofs.Filling.{encodes-copies}
use Rattle.tabled_text.proofs.sink.append_copies.Goals as goal

pub loop-i-preserved : goal.loop-i-preserved
loop-i-preserved g c =
    subst (λ x. g.S.Sink.adds c.args.out.now x c.append_char.new.self) (encodes-copies c.loop-i._i c.args.c)
    (g.met.S.Sink.adds_more c.args.out.now c.loop-i.out c.append_char.new.self
    (encode_utf8_all (replicate c.loop-i._i c.args.c)) (encode_utf8 c.args.c) c.loop-i.invariant c.in_ok-append_char.ensures)
