use Rattle.tabled_text.proofs.Names.{IfSome, IsUtf8, ap, chars, encode_utf8_all, length, subst, sym, words_in, words_of, ◌<◌, ◌∙◌, ◌∷◌, ◌≡◌}
use Rattle.tabled_text.specs.WordWalk.{next_used, next_word, next_words}
use Rattle.tabled_text.specs.WordWrap.{word_units}
use Rattle.tabled_text.proofs.WordFilling.{encodes-next}
use Rattle.tabled_text.proofs.word_wrap.append_next_words.Goals as goal

pub words-preserved : goal.words-preserved
words-preserved g c =
    let n = c.args.n in
    let word = c.split_word.result.0.now in
    let next = c.in-Some.next.now in
    let us = word_units n (chars word) in
    let column = c.words.column in
    let rest = next_words n (next_used n column us) (words_of (chars next)) in
    let whole : words_of (chars c.words.rest.now) ≡ chars word ∷ words_of (chars next) =
    c.split_word.ensures.words ∙ ap (λ o. chars word ∷ words_in o) c.in-Some.is in (
      (λ t h. c.words.invariant.0 t
          (subst (λ x. g.S.Sink.adds c.words.out x t)
          (encodes-next (next_word n column us) rest ∙ ap (λ ws. encode_utf8_all (next_words n column ws)) (sym whole))
          (g.met.S.Sink.adds_more c.words.out c.append_next_word.new.out t (encode_utf8_all (next_word n column us)) (encode_utf8_all rest)
          c.in_ok-column.ensures.text
          (subst (λ k. g.S.Sink.adds c.append_next_word.new.out (encode_utf8_all (next_words n k (words_of (chars next)))) t)
          c.in_ok-column.ensures.used h)))),
      (subst (λ o. IfSome o (λ x. IsUtf8 x.now × (length x.now < length c.words.rest.now))) c.in-Some.is c.split_word.ensures.after).0,
    )
