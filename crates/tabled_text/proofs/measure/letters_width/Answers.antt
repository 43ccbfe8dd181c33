use Rattle.tabled_text.proofs.Names.{AreLetters, IfSome_then, subst}
use Rattle.tabled_text.proofs.LetterBytes.{letters-bound, letters-line}
use Rattle.tabled_text.proofs.measure.letters_width.Goals as goal

pub returns-clause-line : goal.returns-clause-line
returns-clause-line c =
    let text = c.args.line.now in
    IfSome_then c.whole_columns.result c.whole_columns.ensures
    (λ n h. letters-line text n c.utf8.line (subst (λ l. AreLetters l n) c.as_bytes.ensures.value h))

pub returns-clause-bound : goal.returns-clause-bound
returns-clause-bound c =
    IfSome_then c.whole_columns.result c.whole_columns.ensures
    (λ n h. letters-bound (subst (λ l. AreLetters l n) c.as_bytes.ensures.value h))
