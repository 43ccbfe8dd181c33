use Rattle.tabled_text.proofs.Names.{List, [], and_from, ap, arith, chars, count_of, false, is_in_range, is_letter_byte, leb-true, length}
use Rattle.tabled_text.proofs.Names.{list_all, lt-ltb, nat_lt, nat_tests, subst, sym, true, words_of, ℕ, ◌∙◌, ◌∷◌, ◌≡◌, ◌≤◌}
use Rattle.tabled_text.proofs.Basics.{all-weaker}
use Rattle.tabled_text.proofs.LetterBytes.{letters-exact}
use Rattle.tabled_text.proofs.LetterLines.{ends-letters}
use Rattle.tabled_text.proofs.LetterMeasures.{broken-in-place, kept-in-place}
use Rattle.tabled_text.proofs.LetterPieces.{one-word}
use Rattle.tabled_text.proofs.WrappedText.{wrapped-counted, wrapped-short}
use Rattle.tabled_text.specs.LineEnds.{IsWrappedInPlace}
use Rattle.tabled_text.proofs.line_ends.measures_in_place.Goals as goal
use Rattle.tabled_text.proofs.line_ends.measures_in_place.Goals.{else-n-columns-via-else-n-columns}
use Rattle.tabled_text.proofs.line_ends.measures_in_place.Goals.{else-n-columns-via-then-n-columns+else-words-2}
use Rattle.tabled_text.proofs.line_ends.measures_in_place.Goals.{else-n-columns-via-then-n-columns+then-words-2+else-not-is_run, else-words}
use Rattle.tabled_text.proofs.line_ends.measures_in_place.Goals.{then-words}

-- printable ASCII from a first character on
printable-from : (first : ℕ) (bytes : List ℕ) → 32 ≤ first → list_all (is_in_range first 126) bytes ≡ true
    → list_all (is_in_range 32 126) bytes ≡ true
printable-from first bytes low = all-weaker (is_in_range first 126) (is_in_range 32 126) (λ b h. grind (arith, nat_tests)) bytes

letters-from : (first : ℕ) (bytes : List ℕ) → 32 ≤ first → list_all (is_in_range first 126) bytes ≡ true → list_all is_letter_byte bytes ≡ true
letters-from first bytes low = all-weaker (is_in_range first 126) is_letter_byte (λ b h. grind (arith, nat_tests)) bytes

visible-from : (first : ℕ) (bytes : List ℕ) → first ≡ 33 → list_all (is_in_range first 126) bytes ≡ true
    → list_all (is_in_range 33 255) bytes ≡ true
visible-from first bytes is = all-weaker (is_in_range first 126) (is_in_range 33 255) (λ b h. grind (arith, nat_tests)) bytes

pub returns-then-fits_bytes : goal.returns-then-fits_bytes
returns-then-fits_bytes c =
    let n = c.args.n in
    let text = c.args.text.now in
    let short = leb-true (length text) n (sym c.fits_bytes.ensures.value ∙ c.if-fits_bytes.true) in
    subst (λ k. IsWrappedInPlace n c.args.words text k 1) (sym c.requires.columns)
    (kept-in-place n c.args.words text c.requires.line (wrapped-short n c.args.words text c.requires.some c.utf8.text short))

pub measures_by_bytes-requires-clause-ends : goal.measures_by_bytes-requires-clause-ends
measures_by_bytes-requires-clause-ends c =
    let text = c.args.text.now in
    let run = ap (list_all (is_in_range c.if-words.first 126)) (sym c.as_bytes-bytes.ensures.value) ∙ sym c.is_run.ensures ∙ c.if-is_run.true in
    let low : 32 ≤ c.if-words.first = elim c.if-words.branch [
      | then-words w ↦ omega (arith, w.first-is)
      | else-words w ↦ omega (arith, w.first-is)
    ] in
    and_from (nat_lt 0 c.args.n) (list_all (is_in_range 32 126) text) (lt-ltb 0 c.args.n c.requires.some) (printable-from c.if-words.first text low run)

pub returns-then-is_run : goal.returns-then-is_run
returns-then-is_run c =
    let text = c.args.text.now in
    let first = c.if-words.first in
    let run = ap (list_all (is_in_range first 126)) (sym c.as_bytes-bytes.ensures.value) ∙ sym c.is_run.ensures ∙ c.if-is_run.true in
    let low : 32 ≤ first = elim c.if-words.branch [
      | then-words w ↦ omega (arith, w.first-is)
      | else-words w ↦ omega (arith, w.first-is)
    ] in
    let word : c.args.words ≡ true → words_of (chars text) ≡ chars text ∷ [] = λ keeps. elim c.if-words.branch [
      | then-words w ↦ one-word text c.utf8.text (visible-from first text w.first-is run)
      | else-words w ↦ absurd (let clash : false ≡ true = sym w.if-words.false ∙ keeps in cc)
    ] in
    let several = c.measures_by_bytes.ensures.several in
    broken-in-place c.args.n c.measures_by_bytes.result.0 c.measures_by_bytes.result.1 c.args.words text c.utf8.text
    (ends-letters c.args.n text c.requires.some (letters-from first text low run)) word
    (record { columns_are = c.measures_by_bytes.ensures.columns; count_is = c.measures_by_bytes.ensures.lines }) (λ one. omega arith)

pub returns-then-columns-n : goal.returns-then-columns-n
returns-then-columns-n c =
    let n = c.args.n in
    let text = c.args.text.now in
    let exact = letters-exact text c.utf8.text (c.is_letter_line.ensures c.if-not-is_letter_line.false) in
    let fits : count_of (chars text) ≤ n = omega (arith, exact.counted, c.requires.columns, c.if-columns-n.true) in
    subst (λ k. IsWrappedInPlace n c.args.words text k 1) (sym c.requires.columns)
    (kept-in-place n c.args.words text c.requires.line (wrapped-counted n c.args.words text c.requires.some c.utf8.text fits))

pub returns-else-told-eq1 : goal.returns-else-told-eq1
returns-else-told-eq1 c =
    let n = c.args.n in
    let text = c.args.text.now in
    let told = c.measures_by_columns-told in
    let letters = c.is_letter_line.ensures c.if-not-is_letter_line.false in
    let word : c.args.words ≡ true → words_of (chars text) ≡ chars text ∷ [] = λ keeps. elim c.else-n-columns.branch [
      | else-n-columns-via-then-n-columns+then-words-2+else-not-is_run w ↦
          one-word text c.utf8.text
          (ap (list_all (is_in_range 33 255)) (sym c.as_bytes-bytes.ensures.value) ∙ sym w.is_run-then-words-2.ensures ∙ w.if-not-is_run.false)
      | else-n-columns-via-then-n-columns+else-words-2 w ↦ absurd (let clash : false ≡ true = sym w.if-words-2.false ∙ keeps in cc)
      | else-n-columns-via-else-n-columns w ↦ absurd (omega (arith, w.if-n-columns.false, c.if-columns-n.false))
    ] in
    broken-in-place n told.result.0 told.result.1 c.args.words text c.utf8.text (ends-letters n text c.requires.some letters) word
    (record { columns_are = told.ensures.columns; count_is = told.ensures.lines }) c.if-told-eq1.false
