use Rattle.tabled_text.proofs.Names.{begin_text, encode_utf8, encode_utf8_all, replicate, subst, ◌-◌}
use Rattle.tabled_text.proofs.Filling.{encodes-narrow, encodes-wide}
use Rattle.tabled_text.proofs.wrap.append_char.Goals as goal

pub returns-then-count-n-clause-text : goal.returns-then-count-n-clause-text
returns-then-count-n-clause-text g c =
    let n = c.args.n in
    let count = c.char_count-count.result in
    subst (λ x. g.S.Sink.adds c.args.out.now x c.append_char.new.self)
    (encodes-narrow n c.args.used c.args.c count c.char_count-count.ensures.value c.if-count-n.true)
    (g.met.S.Sink.adds_more c.args.out.now c.begin.new.out c.append_char.new.self
    (begin_text n c.args.used count) (encode_utf8 c.args.c) c.in_ok-column.ensures.text c.in_ok-append_char.ensures)

pub returns-clause-text : goal.returns-clause-text
returns-clause-text g c =
    let n = c.args.n in
    let column = c.in_ok-column-2.column in
    subst (λ x. g.S.Sink.adds c.args.out.now x c.append_copies.new.out)
    (encodes-wide n c.args.used c.args.c c.char_count-count.result column c.char_count-count.ensures.value
    c.if-count-n.false c.in_ok-column-2.ensures.at)
    (g.met.S.Sink.adds_more c.args.out.now c.begin-2.new.out c.append_copies.new.out (begin_text n c.args.used 1)
    (encode_utf8_all (replicate (n - column) 0xFFFD)) c.in_ok-column-2.ensures.text c.in_ok-append_copies.ensures.added)
