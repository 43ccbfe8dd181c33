use Rattle.tabled_text.proofs.Names.{Bool, IfOk, IsUtf8, IsWrapped, List, OnOk, [], ap, arith, chars, encode_utf8_all, eqb-true, false}
use Rattle.tabled_text.proofs.Names.{inl, inr, leb-true, length, lines_of, nil_from_length, on_ok_weaker, pending, string_bytes, subst, sym}
use Rattle.tabled_text.proofs.Names.{text_columns, written_line, ℕ, ◌++◌, ◌∙◌, ◌≡◌}
use Rattle.std.proofs.Common.{Err, Ok, Result}
use Rattle.tabled_text.specs.LineEnds.{wrapped_text}
use Rattle.tabled_text.proofs.Bridge.{text_columns-nil}
use Rattle.tabled_text.proofs.LetterPieces.{pending-letters, written-letters}
use Rattle.tabled_text.proofs.WrappedText.{IsWrapped-text, wrapped-nothing, wrapped-printable, wrapped-short, wrapped-some}
use Rattle.tabled_text.proofs.wrap.wrap_into.Goals as goal
use Rattle.tabled_text.proofs.wrap.wrap_into.Goals.{then-n-eq0-via-else-n-eq0+then-is_empty, then-n-eq0-via-then-n-eq0}

-- what equals the wrapped text is it
wrapped_as : (n : ℕ) (words : Bool) (text out : List ℕ) → IsUtf8 text → out ≡ wrapped_text n words text → IsWrapped n words text out
wrapped_as n words text out u e = subst (IsWrapped n words text) (sym e) (IsWrapped-text n words text u)

pub returns-then-n-eq0-clause-text : goal.returns-then-n-eq0-clause-text
returns-then-n-eq0-clause-text c =
    c.clear.ensures.bytes
    ∙ sym (wrapped-nothing c.args.n c.args.words c.args.text.now
    (elim c.then-n-eq0.branch [
      | then-n-eq0-via-then-n-eq0 w ↦ inl w.if-n-eq0.true
      | then-n-eq0-via-else-n-eq0+then-is_empty w ↦
          inr (nil_from_length c.args.text.now
          (eqb-true (length c.args.text.now) 0 (grind (arith, w.is_empty.ensures, w.if-is_empty.true))))
    ]))

pub returns-then-n-eq0-clause-wrapped : goal.returns-then-n-eq0-clause-wrapped
returns-then-n-eq0-clause-wrapped c =
    wrapped_as c.args.n c.args.words c.args.text.now (string_bytes c.clear.new.self) c.utf8.text (returns-then-n-eq0-clause-text c)

pub returns-then-n-eq0-clause-columns : goal.returns-then-n-eq0-clause-columns
returns-then-n-eq0-clause-columns c = sym (ap text_columns c.clear.ensures.bytes ∙ text_columns-nil)

pub returns-then-n-eq0-clause-lines : goal.returns-then-n-eq0-clause-lines
returns-then-n-eq0-clause-lines c = sym (ap (λ l. length (lines_of l)) c.clear.ensures.bytes)

pub returns-then-fits_bytes-clause-text : goal.returns-then-fits_bytes-clause-text
returns-then-fits_bytes-clause-text c =
    let n = c.args.n in
    let text = c.args.text.now in
    c.in_ok-push_str.ensures.bytes ∙ ap (λ l. l ++ text) c.clear.ensures.bytes
    ∙ sym (wrapped-short n c.args.words text (omega arith) c.utf8.text
    (leb-true (length text) n (sym c.fits_bytes.ensures.value ∙ c.if-fits_bytes.true)))

pub returns-then-fits_bytes-clause-wrapped : goal.returns-then-fits_bytes-clause-wrapped
returns-then-fits_bytes-clause-wrapped c =
    wrapped_as c.args.n c.args.words c.args.text.now (string_bytes c.push_str.new.self) c.utf8.text (returns-then-fits_bytes-clause-text c)

pub returns-then-is_printable-clause-text : goal.returns-then-is_printable-clause-text
returns-then-is_printable-clause-text c =
    let n = c.args.n in
    let text = c.args.text.now in
    on_ok_weaker c.append_printable.result
    (λ h. h ∙ ap (λ l. l ++ written_line n c.args.words text) (c.reserve_exact.ensures.bytes ∙ c.clear.ensures.bytes)
    ∙ sym (wrapped-printable n c.args.words text (omega arith) (sym c.is_printable.ensures ∙ c.if-is_printable.true)))
    c.append_printable.ensures.text

pub returns-then-is_printable-clause-wrapped : goal.returns-then-is_printable-clause-wrapped
returns-then-is_printable-clause-wrapped c =
    on_ok_weaker c.append_printable.result
    (wrapped_as c.args.n c.args.words c.args.text.now (string_bytes c.append_printable.new.out) c.utf8.text)
    (returns-then-is_printable-clause-text c)

-- the measures of what was written alone
columns_from : {E : Type 0} (r : Result (ℕ × ℕ) E) (whole old out : List ℕ) → old ≡ [] → IfOk r (λ m. m.0 ≡ text_columns whole)
    → OnOk r (out ≡ old ++ whole) → IfOk r (λ m. m.0 ≡ text_columns out)
columns_from (Ok m) whole old out none h t = h ∙ sym (ap text_columns (t ∙ ap (λ l. l ++ whole) none))
columns_from (Err e) whole old out none h t = tt

lines_from : {E : Type 0} (r : Result (ℕ × ℕ) E) (whole old out : List ℕ) → old ≡ [] → IfOk r (λ m. m.1 ≡ length (lines_of whole))
    → OnOk r (out ≡ old ++ whole) → IfOk r (λ m. m.1 ≡ length (lines_of out))
lines_from (Ok m) whole old out none h t = h ∙ sym (ap (λ l. length (lines_of l)) (t ∙ ap (λ l. l ++ whole) none))
lines_from (Err e) whole old out none h t = tt

pub returns-then-is_printable-clause-columns : goal.returns-then-is_printable-clause-columns
returns-then-is_printable-clause-columns c =
    columns_from c.append_printable.result (written_line c.args.n c.args.words c.args.text.now) (string_bytes c.reserve_exact.new.self)
    (string_bytes c.append_printable.new.out) (c.reserve_exact.ensures.bytes ∙ c.clear.ensures.bytes) c.append_printable.ensures.columns c.append_printable.ensures.text

pub returns-then-is_printable-clause-lines : goal.returns-then-is_printable-clause-lines
returns-then-is_printable-clause-lines c =
    lines_from c.append_printable.result (written_line c.args.n c.args.words c.args.text.now) (string_bytes c.reserve_exact.new.self)
    (string_bytes c.append_printable.new.out) (c.reserve_exact.ensures.bytes ∙ c.clear.ensures.bytes) c.append_printable.ensures.lines c.append_printable.ensures.text

pub returns-then-breaks_letters-clause-text : goal.returns-then-breaks_letters-clause-text
returns-then-breaks_letters-clause-text c =
    let n = c.args.n in
    let text = c.args.text.now in
    let letters = c.breaks_letters.ensures.letters c.if-breaks_letters.true in
    on_ok_weaker c.append_letters.result
    (λ h. h ∙ ap (λ l. l ++ written_line n false text) (c.reserve_exact.ensures.bytes ∙ c.clear.ensures.bytes)
    ∙ written-letters n c.args.words text c.utf8.text letters (c.breaks_letters.ensures.word c.if-breaks_letters.true)
    ∙ pending-letters n c.args.words text c.utf8.text letters ∙ sym (wrapped-some n c.args.words text (omega arith)))
    c.append_letters.ensures.text

pub returns-then-breaks_letters-clause-wrapped : goal.returns-then-breaks_letters-clause-wrapped
returns-then-breaks_letters-clause-wrapped c =
    on_ok_weaker c.append_letters.result
    (wrapped_as c.args.n c.args.words c.args.text.now (string_bytes c.append_letters.new.out) c.utf8.text)
    (returns-then-breaks_letters-clause-text c)

pub returns-then-breaks_letters-clause-columns : goal.returns-then-breaks_letters-clause-columns
returns-then-breaks_letters-clause-columns c =
    columns_from c.append_letters.result (written_line c.args.n false c.args.text.now) (string_bytes c.reserve_exact.new.self)
    (string_bytes c.append_letters.new.out) (c.reserve_exact.ensures.bytes ∙ c.clear.ensures.bytes) c.append_letters.ensures.columns c.append_letters.ensures.text

pub returns-then-breaks_letters-clause-lines : goal.returns-then-breaks_letters-clause-lines
returns-then-breaks_letters-clause-lines c =
    lines_from c.append_letters.result (written_line c.args.n false c.args.text.now) (string_bytes c.reserve_exact.new.self)
    (string_bytes c.append_letters.new.out) (c.reserve_exact.ensures.bytes ∙ c.clear.ensures.bytes) c.append_letters.ensures.lines c.append_letters.ensures.text

pub returns-clause-text : goal.returns-clause-text
returns-clause-text c =
    let n = c.args.n in
    let text = c.args.text.now in
    c.in_ok-append_lines.ensures
    ∙ ap (λ l. l ++ encode_utf8_all (pending n c.args.words false (lines_of (chars text)))) (c.reserve_exact.ensures.bytes ∙ c.clear.ensures.bytes)
    ∙ sym (wrapped-some n c.args.words text (omega arith))

pub returns-clause-wrapped : goal.returns-clause-wrapped
returns-clause-wrapped c =
    wrapped_as c.args.n c.args.words c.args.text.now (string_bytes c.append_lines.new.out) c.utf8.text (returns-clause-text c)
