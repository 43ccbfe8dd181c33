use Rattle.tabled_text.proofs.Names.{IsUtf8, IsUtf8-nil, [], ap, arith, chars, encode_utf8_all, eqb-true, false, leb-true, length, lines_of}
use Rattle.tabled_text.proofs.Names.{nil_from_length, string_bytes, subst, sym, text_columns, ◌++◌, ◌<◌, ◌∙◌, ◌≡◌}
use Rattle.tabled_text.specs.WordWalk.{pending_words}
use Rattle.tabled_text.specs.WordWrap.{IsWordWrapped}
use Rattle.tabled_text.proofs.Bridge.{text_columns-nil}
use Rattle.tabled_text.proofs.WordFilling.{IsWordWrapped-none, IsWordWrapped-written}
use Rattle.tabled_text.proofs.WordLaws.{IsWordWrapped-short}
use Rattle.tabled_text.proofs.word_wrap.wrap_words_into.Goals as goal
use Rattle.tabled_text.proofs.word_wrap.wrap_words_into.Goals.{then-n-eq0-via-else-n-eq0+then-is_empty, then-n-eq0-via-then-n-eq0}

pub returns-then-n-eq0-clause-wrapped : goal.returns-then-n-eq0-clause-wrapped
returns-then-n-eq0-clause-wrapped c =
    let n = c.args.n in
    let text = c.args.text.now in
    let out = string_bytes c.clear.new.self in
    elim c.then-n-eq0.branch [
      | then-n-eq0-via-then-n-eq0 w ↦ IsWordWrapped-none n text out w.if-n-eq0.true c.clear.ensures.bytes
      | then-n-eq0-via-else-n-eq0+then-is_empty w ↦
          (let ne = w.if-n-eq0.false in
          let pos : 0 < n = omega arith in
          let none : text ≡ [] = nil_from_length text (eqb-true (length text) 0 (grind (arith, w.is_empty.ensures, w.if-is_empty.true))) in
          subst (λ t. IsWordWrapped n t out) (sym none)
          (subst (IsWordWrapped n []) (sym c.clear.ensures.bytes) (IsWordWrapped-short n [] IsUtf8-nil pos (omega arith))))
    ]

pub returns-then-n-eq0-clause-columns : goal.returns-then-n-eq0-clause-columns
returns-then-n-eq0-clause-columns c = sym (ap text_columns c.clear.ensures.bytes ∙ text_columns-nil)

pub returns-then-fits_bytes-clause-wrapped : goal.returns-then-fits_bytes-clause-wrapped
returns-then-fits_bytes-clause-wrapped c =
    let n = c.args.n in
    let text = c.args.text.now in
    let same : string_bytes c.push_str.new.self ≡ text = c.in_ok-push_str.ensures.bytes ∙ ap (λ l. l ++ text) c.clear.ensures.bytes in
    subst (IsWordWrapped n text) (sym same)
    (IsWordWrapped-short n text c.utf8.text (omega arith) (leb-true (length text) n (sym c.fits_bytes.ensures.value ∙ c.if-fits_bytes.true)))

pub returns-clause-wrapped : goal.returns-clause-wrapped
returns-clause-wrapped c =
    let n = c.args.n in
    let text = c.args.text.now in
    let out = string_bytes c.append_lines_of_words.new.out in
    IsWordWrapped-written n text out c.if-n-eq0.false (subst IsUtf8 c.as_str-2.ensures.value c.as_str-2.utf8)
    (c.in_ok-append_lines_of_words.ensures
    ∙ ap (λ l. l ++ encode_utf8_all (pending_words n false (lines_of (chars text)))) (c.reserve_exact.ensures.bytes ∙ c.clear.ensures.bytes))
