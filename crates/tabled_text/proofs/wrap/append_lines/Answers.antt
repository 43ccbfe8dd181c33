use Rattle.tabled_text.proofs.Names.{[], ap, append_all, chars, cond, encode_ascii, encode_utf8_all, false, lines_left, lit<, map, pending}
use Rattle.tabled_text.proofs.Names.{subst, sym, true, units, ◌++◌, ◌∙◌, ◌∷◌}
use Rattle.tabled_text.proofs.Bridge.{lines_of-chars}
use Rattle.tabled_text.proofs.Filling.{encodes-pending}
use Rattle.tabled_text.proofs.wrap.append_lines.Goals as goal
use Rattle.tabled_text.proofs.wrap.append_lines.Goals.{else-begun, then-begun+in_ok-append_char}

pub loop-line-init : goal.loop-line-init
loop-line-init g c = λ t h.
    subst (λ l. g.S.Sink.adds c.args.out.now (encode_utf8_all (pending c.args.n c.args.words false l)) t)
    (ap (map chars) (ap lines_left c.into_iter-line-iterator.ensures.into_iter_gives ∙ c.lines-line-items.ensures)
    ∙ sym (lines_of-chars c.args.text.now c.utf8.text)) h

pub loop-line-preserved : goal.loop-line-preserved
loop-line-preserved g c = λ t h.
    let n = c.args.n in
    let words = c.args.words in
    let begun = c.loop-line.begun in
    let line = chars c.in-Some.line.now in
    let rest = map chars (lines_left c.next.new.self) in
    let feed : g.S.Sink.adds c.loop-line.out (cond begun (10 ∷ []) []) c.if-begun.out = elim c.if-begun.branch [
      | then-begun+in_ok-append_char w ↦
          subst (λ o. g.S.Sink.adds c.loop-line.out (cond begun (10 ∷ []) []) o) (sym w.out-is)
          (subst (λ x. g.S.Sink.adds c.loop-line.out x w.append_char.new.self)
          (encode_ascii 10 (lit< tt) ∙ ap (λ b. cond b (10 ∷ []) []) (sym w.if-begun.true)) w.in_ok-append_char.ensures)
      | else-begun w ↦
          subst (λ o. g.S.Sink.adds c.loop-line.out (cond begun (10 ∷ []) []) o) (sym w.out-is)
          (subst (λ x. g.S.Sink.adds c.loop-line.out x c.loop-line.out)
          (ap (λ b. cond b (10 ∷ []) []) (sym w.if-begun.false)) (g.met.S.Sink.adds_nothing c.loop-line.out))
    ] in
    c.loop-line.invariant t
    (subst (λ l. g.S.Sink.adds c.loop-line.out (encode_utf8_all (pending n words begun l)) t) (sym (ap (map chars) c.in-Some.ensures.steps))
    (subst (λ x. g.S.Sink.adds c.loop-line.out x t) (encodes-pending n words begun line rest)
    (g.met.S.Sink.adds_more c.loop-line.out c.if-begun.out t (cond begun (10 ∷ []) [])
    (encode_utf8_all (append_all n 0 (units n words line)) ++ encode_utf8_all (pending n words true rest)) feed
    (g.met.S.Sink.adds_more c.if-begun.out c.append_line.new.out t (encode_utf8_all (append_all n 0 (units n words line)))
    (encode_utf8_all (pending n words true rest)) c.in_ok-append_line.ensures h))))

pub returns : goal.returns
returns g c = c.loop-line.invariant c.loop-line.out
    (subst (λ l. g.S.Sink.adds c.loop-line.out (encode_utf8_all (pending c.args.n c.args.words c.loop-line.begun l))
    c.loop-line.out) (sym (ap (map chars) c.in-None.ensures.steps.0)) (g.met.S.Sink.adds_nothing c.loop-line.out))
