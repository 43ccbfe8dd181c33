use Rattle.tabled_text.proofs.Names.{AreLetters, IfSome_then, ap, arith, chunk, drop, length, length-append, length-chunk, replicate, subst}
use Rattle.tabled_text.proofs.Names.{◌++◌, ◌-◌, ◌∙◌}
use Rattle.std.proofs.lemmas.Simd.{pick_l_whole}
use Rattle.tabled_text.proofs.LetterBytes.{letters-halves}
use Rattle.tabled_text.proofs.letters.few_columns.Goals as goal

pub returns : goal.returns
returns c =
    let bytes = c.args.bytes.now in
    let k = 16 - length bytes in
    let back = chunk (length bytes - 8) 8 bytes in
    let front = chunk 0 8 bytes in
    let size = length-chunk (length bytes - 8) 8 bytes (omega arith) in
    let whole = pick_l_whole 0 (back ++ front) 16 (omega (arith, length-append back front, size, length-chunk 0 8 bytes (omega arith))) in
    IfSome_then c.block_columns.result c.block_columns.ensures
    (λ n h. letters-halves bytes n c.requires.some c.requires.few
    (subst (λ l. AreLetters l n) (c.filled.ensures ∙ ap (λ l. replicate k 0x80 ++ drop k l) whole) h))
