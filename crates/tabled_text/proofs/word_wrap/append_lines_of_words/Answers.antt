use Rattle.tabled_text.proofs.Names.{[], ap, chars, cond, encode_ascii, encode_utf8_all, false, lines_left, lit<, map, subst, sym, true, words_of}
use Rattle.tabled_text.proofs.Names.{◌++◌, ◌∙◌, ◌∷◌}
use Rattle.tabled_text.specs.WordWalk.{line_of_words, pending_words}
use Rattle.tabled_text.proofs.Bridge.{lines_of-chars}
use Rattle.tabled_text.proofs.WordFilling.{encodes-pending_words}
use Rattle.tabled_text.proofs.word_wrap.append_lines_of_words.Goals as goal
use Rattle.tabled_text.proofs.word_wrap.append_lines_of_words.Goals.{else-begun, then-begun+in_ok-append_char}

pub loop-line-init : goal.loop-line-init
loop-line-init g c = λ t h.
    subst (λ l. g.S.Sink.adds c.args.out.now (encode_utf8_all (pending_words c.args.n false l)) t)
    (ap (map chars) (ap lines_left c.into_iter-line-iterator.ensures.into_iter_gives ∙ c.lines-line-items.ensures)
    ∙ sym (lines_of-chars c.args.text.now c.utf8.text)) h

pub loop-line-preserved : goal.loop-line-preserved
loop-line-preserved g c = λ t h.
    let n = c.args.n in
    let begun = c.loop-line.begun in
    let line = chars c.in-Some.line.now in
    let rest = map chars (lines_left c.next.new.self) in
    let text = line_of_words n (words_of line) in
    let feed : g.S.Sink.adds c.loop-line.out (cond begun (10 ∷ []) []) c.if-begun.out = elim c.if-begun.branch [
      | then-begun+in_ok-append_char w ↦
          subst (λ o. g.S.Sink.adds c.loop-line.out (cond begun (10 ∷ []) []) o) (sym w.out-is)
          (subst (λ x. g.S.Sink.adds c.loop-line.out x w.append_char.new.self)
          (encode_ascii 10 (lit< tt) ∙ ap (λ b. cond b (10 ∷ []) []) (sym w.if-begun.true)) w.in_ok-append_char.ensures)
      | else-begun w ↦
          subst (λ o. g.S.Sink.adds c.loop-line.out (cond begun (10 ∷ []) []) o) (sym w.out-is)
          (subst (λ x. g.S.Sink.adds c.loop-line.out x c.loop-line.out)
          (ap (λ b. cond b (10 ∷ []) []) (sym w.if-begun.false)) (g.met.S.Sink.adds_nothing c.loop-line.out))
    ] in
    c.loop-line.invariant t
    (subst (λ l. g.S.Sink.adds c.loop-line.out (encode_utf8_all (pending_words n begun l)) t) (sym (ap (map chars) c.in-Some.ensures.steps))
    (subst (λ x. g.S.Sink.adds c.loop-line.out x t) (encodes-pending_words n begun line rest)
    (g.met.S.Sink.adds_more c.loop-line.out c.if-begun.out t (cond begun (10 ∷ []) [])
    (encode_utf8_all text ++ encode_utf8_all (pending_words n true rest)) feed
    (g.met.S.Sink.adds_more c.if-begun.out c.append_line_of_words.new.out t (encode_utf8_all text)
    (encode_utf8_all (pending_words n true rest)) c.in_ok-append_line_of_words.ensures h))))
