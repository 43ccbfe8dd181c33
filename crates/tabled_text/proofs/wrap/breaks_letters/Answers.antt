use Rattle.tabled_text.proofs.Names.{ap, false, is_in_range, list_all, sym, true, ◌∙◌, ◌≡◌}
use Rattle.tabled_text.proofs.LetterPieces.{one-word}
use Rattle.tabled_text.proofs.wrap.breaks_letters.Goals as goal

pub returns-then-not-words-clause-word : goal.returns-then-not-words-clause-word
returns-then-not-words-clause-word c = λ _ keeps. absurd (let clash : false ≡ true = sym c.if-not-words.true ∙ keeps in cc)

pub returns-then-is_run-clause-word : goal.returns-then-is_run-clause-word
returns-then-is_run-clause-word c = λ _ _.
    one-word c.args.text.now c.utf8.text
    (ap (list_all (is_in_range 33 255)) (sym c.as_bytes.ensures.value) ∙ sym c.is_run.ensures ∙ c.if-is_run.true)
