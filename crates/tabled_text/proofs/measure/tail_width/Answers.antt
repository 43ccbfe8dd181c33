use Rattle.tabled_text.proofs.Names.{AreLetters, IfSome_then, IsUtf8-drop, drop, subst}
use Rattle.tabled_text.proofs.LetterBytes.{letters-line}
use Rattle.tabled_text.proofs.measure.tail_width.Goals as goal

pub returns : goal.returns
returns c =
    let start = c.args.start in
    let text = c.args.text.now in
    IfSome_then c.letter_columns.result c.letter_columns.ensures
    (λ n h. letters-line (drop start text) n (IsUtf8-drop text start c.utf8.text c.requires)
    (subst (λ l. AreLetters (drop start l) n) c.as_bytes.ensures.value h))
