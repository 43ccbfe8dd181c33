use Rattle.tabled_text.proofs.Names.{IfSome, IsUtf8, [], ap, append_all, append_text, append_used, chars, encode_utf8_all, length, space}
use Rattle.tabled_text.proofs.Names.{subst, sym, units_of_word, units_of_words, used_after, words_in, words_of, ◌++◌, ◌<◌, ◌∙◌, ◌∷◌, ◌≡◌}
use Rattle.tabled_text.proofs.Filling.{encodes-more, encodes-on, space-is, unit_of, units_of_words-more}
use Rattle.tabled_text.proofs.wrap.append_words.Goals as goal

pub words-preserved : goal.words-preserved
words-preserved g c =
    let n = c.args.n in
    let word = c.split_word.result.0.now in
    let next = c.in-Some.next.now in
    let xs = units_of_word n (chars word) in
    let ys = units_of_words n (words_of (chars next)) in
    let column = c.words.column in
    let after = used_after n column xs in
    let whole : units_of_words n (words_of (chars c.words.rest.now)) ≡ xs ++ space ∷ ys =
    ap (units_of_words n) (c.split_word.ensures.words ∙ ap (λ o. chars word ∷ words_in o) c.in-Some.is) ∙
    units_of_words-more n (chars word) (chars next) in
    let at : c.in_ok-column-in-Some.column ≡ append_used n after space =
    c.in_ok-column-in-Some.ensures.used ∙ ap (λ k. append_used n k (unit_of (chars (32 ∷ [])) 1))
    c.in_ok-column.ensures.used ∙ ap (append_used n after) space-is in
    let text = subst (λ p. g.S.Sink.adds c.append_unit.new.out (encode_utf8_all (append_text n after p)) c.append_word.new.out) space-is
    (subst (λ k. g.S.Sink.adds c.append_unit.new.out (encode_utf8_all (append_text n k (unit_of (chars (32 ∷ [])) 1)))
    c.append_word.new.out) c.in_ok-column.ensures.used c.in_ok-column-in-Some.ensures.text) in (
      (λ t h. c.words.invariant.0 t
          (subst (λ x. g.S.Sink.adds c.words.out x t)
          (encodes-on n column xs (space ∷ ys) ∙ ap (λ l. encode_utf8_all (append_all n column l)) (sym whole))
          (g.met.S.Sink.adds_more c.words.out c.append_unit.new.out t (encode_utf8_all (append_all n column xs))
          (encode_utf8_all (append_all n after (space ∷ ys))) c.in_ok-column.ensures.text
          (subst (λ x. g.S.Sink.adds c.append_unit.new.out x t) (encodes-more n after space ys)
          (g.met.S.Sink.adds_more c.append_unit.new.out c.append_word.new.out t (encode_utf8_all (append_text n after space))
          (encode_utf8_all (append_all n (append_used n after space) ys)) text
          (subst (λ k. g.S.Sink.adds c.append_word.new.out (encode_utf8_all (append_all n k ys)) t) at h)))))),
      (subst (λ o. IfSome o (λ x. IsUtf8 x.now × (length x.now < length c.words.rest.now))) c.in-Some.is c.split_word.ensures.after).0,
    )
