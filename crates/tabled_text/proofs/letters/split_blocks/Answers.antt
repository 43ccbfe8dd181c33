use Rattle.tabled_text.proofs.Names.{AreLetters, ap, subst, sym, take, ◌∙◌}
use Rattle.tabled_text.proofs.LetterBytes.{letters-inner}
use Rattle.tabled_text.proofs.letters.split_blocks.Goals as goal

pub returns-clause-letters : goal.returns-clause-letters
returns-clause-letters c =
    let run = c.short_run_end.ensures in
    let columns = c.letter_blocks-at.result.1 in
    subst (λ l. AreLetters l columns) (ap (take c.short_run_end.result) c.as_bytes-bytes.ensures.value ∙ sym c.split_at.ensures.front)
    (letters-inner c.as_bytes-bytes.result.now c.letter_blocks-at.result.0 c.short_run_end.result columns run.from run.end run.passed
    c.letter_blocks-at.ensures.letters)
