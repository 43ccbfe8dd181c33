use Rattle.tabled_text.proofs.Names.{IfOk, OnOk, ap, append-nil, append_all, encode_utf8_all, subst, sym, used_after, ◌≡◌}
use Rattle.tabled_text.proofs.Filling.{units_of_word-empty, units_of_word-short}
use Rattle.tabled_text.proofs.wrap.append_unit.Goals as goal

pub returns-then-is_empty-clause-used : goal.returns-then-is_empty-clause-used
returns-then-is_empty-clause-used g c = ap (used_after c.args.n c.args.used)
    (sym (units_of_word-empty c.args.n c.args.word.now c.is_empty.result c.is_empty.ensures c.if-is_empty.true))

pub returns-then-is_empty-clause-text : goal.returns-then-is_empty-clause-text
returns-then-is_empty-clause-text g c =
    subst (λ x. g.S.Sink.adds c.args.out.now x c.args.out.now)
    (ap (λ l. encode_utf8_all (append_all c.args.n c.args.used l))
    (sym (units_of_word-empty c.args.n c.args.word.now c.is_empty.result c.is_empty.ensures c.if-is_empty.true)))
    (g.met.S.Sink.adds_nothing c.args.out.now)

pub returns-then-width-n-clause-used : goal.returns-then-width-n-clause-used
returns-then-width-n-clause-used g c =
    let one = units_of_word-short c.args.n c.args.word.now c.line_width-width.result c.is_empty.result c.utf8.word
    c.is_empty.ensures c.if-is_empty.false c.line_width-width.ensures.value c.if-width-n.true in
    subst (λ k. IfOk c.append_word.result (λ column. column ≡ used_after c.args.n c.args.used k)) (sym one) c.append_word.ensures.used

pub returns-then-width-n-clause-text : goal.returns-then-width-n-clause-text
returns-then-width-n-clause-text g c =
    let one = units_of_word-short c.args.n c.args.word.now c.line_width-width.result c.is_empty.result c.utf8.word
    c.is_empty.ensures c.if-is_empty.false c.line_width-width.ensures.value c.if-width-n.true in
    subst (λ k. OnOk c.append_word.result (g.S.Sink.adds c.args.out.now (encode_utf8_all (append_all c.args.n c.args.used k)) c.append_word.new.out)) (sym one)
    (subst (λ t. OnOk c.append_word.result (g.S.Sink.adds c.args.out.now (encode_utf8_all t) c.append_word.new.out))
    (sym (append-nil _)) c.append_word.ensures.text)
