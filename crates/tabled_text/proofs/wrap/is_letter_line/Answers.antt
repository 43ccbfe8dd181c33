use Rattle.tabled_text.proofs.Names.{AreLetters, IfSome, List, None, Option, Some, ap, is_in_range, is_letter_byte, list_all, lit<, sym}
use Rattle.tabled_text.proofs.Names.{true, ℕ, ◌∙◌, ◌≡◌}
use Rattle.std.proofs.Common.{is_some}
use Rattle.tabled_text.proofs.LetterPieces.{letters-run}
use Rattle.tabled_text.proofs.wrap.is_letter_line.Goals as goal

all-of : (bytes : List ℕ) (r : Option ℕ) → IfSome r (λ n. AreLetters bytes n) → is_some r ≡ true → list_all is_letter_byte bytes ≡ true
all-of bytes (Some n) h is = h.all
all-of bytes None h is = absurd (cc)

pub returns-then-bytes-ge-HALF_BLOCK : goal.returns-then-bytes-ge-HALF_BLOCK
returns-then-bytes-ge-HALF_BLOCK c = λ is.
    ap (list_all is_letter_byte) (sym c.as_bytes-bytes.ensures.value)
    ∙ all-of c.as_bytes-bytes.result.now c.whole_columns.result c.whole_columns.ensures (sym c.is_some.ensures ∙ is)

pub returns-then-is_run : goal.returns-then-is_run
returns-then-is_run c = λ is.
    letters-run 32 c.args.text.now (lit< tt)
    (ap (list_all (is_in_range 32 255)) (sym c.as_bytes-bytes.ensures.value) ∙ sym c.is_run.ensures ∙ c.if-is_run.true)
    (sym c.is_letter_text.ensures ∙ is)
