use Rattle.tabled_text.proofs.Names.{ap, append_all, chars, encode_utf8_all, on_ok_weaker, subst, sym, used_after, words_in, words_of, ◌∙◌}
use Rattle.tabled_text.proofs.Names.{◌∷◌, ◌≡◌}
use Rattle.tabled_text.specs.WordWalk.{line_of_words, next_words}
use Rattle.tabled_text.specs.WordWrap.{word_units}
use Rattle.tabled_text.proofs.WordFilling.{encodes-next}
use Rattle.tabled_text.proofs.word_wrap.append_line_of_words.Goals as goal

pub returns-in-Some : goal.returns-in-Some
returns-in-Some g c =
    let n = c.args.n in
    let word = c.split_word.result.0.now in
    let next = c.in-Some.next.now in
    let us = word_units n (chars word) in
    let rest = next_words n (used_after n 0 us) (words_of (chars next)) in
    let whole : words_of (chars c.args.line.now) ≡ chars word ∷ words_of (chars next) =
    c.split_word.ensures.words ∙ ap (λ o. chars word ∷ words_in o) c.in-Some.is in
    on_ok_weaker c.append_next_words.result
    (λ h. subst (λ x. g.S.Sink.adds c.args.out.now x c.append_next_words.new.out)
    (encodes-next (append_all n 0 us) rest ∙ ap (λ ws. encode_utf8_all (line_of_words n ws)) (sym whole))
    (g.met.S.Sink.adds_more c.args.out.now c.append_whole.new.out c.append_next_words.new.out (encode_utf8_all (append_all n 0 us))
    (encode_utf8_all rest) c.in_ok-column.ensures.text
    (subst (λ k. g.S.Sink.adds c.append_whole.new.out (encode_utf8_all (next_words n k (words_of (chars next)))) c.append_next_words.new.out)
    c.in_ok-column.ensures.used h)))
    c.append_next_words.ensures
