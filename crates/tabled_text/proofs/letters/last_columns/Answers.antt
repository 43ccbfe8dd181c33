use Rattle.tabled_text.proofs.Names.{AreLetters, IfSome_then, ap, arith, drop, length, replicate, subst, ◌++◌, ◌-◌, ◌∙◌}
use Rattle.tabled_text.proofs.LetterBytes.{letters-last}
use Rattle.tabled_text.proofs.letters.last_columns.Goals as goal

pub returns : goal.returns
returns c =
    let bytes = c.args.bytes.now in
    let at = length bytes - 16 in
    IfSome_then c.block_columns.result c.block_columns.ensures
    (λ n h. letters-last bytes at c.args.start n (omega arith) (omega arith)
    (subst (λ l. AreLetters l n) (c.filled.ensures ∙ ap (λ l. replicate (c.args.start - at) 0x80 ++ drop (c.args.start - at) l) c.block_at.ensures) h))
