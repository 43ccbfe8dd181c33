use Rattle.tabled_text.proofs.Names.{ap, arith, chunk, drop, is_letter_or_break, length, length-drop, list_all, sym, take_all, ◌-◌, ◌∙◌}
use Rattle.tabled_text.proofs.Names.{◌≡◌}
use Rattle.tabled_text.proofs.RunLemmas.{rest-decides}
use Rattle.tabled_text.proofs.letters.ends_in_letters.Goals as goal

pub returns-then-bytes-ge-BLOCK : goal.returns-then-bytes-ge-BLOCK
returns-then-bytes-ge-BLOCK c =
    let bytes = c.args.bytes.now in
    let k = length bytes - 16 in
    let whole : chunk k 16 bytes ≡ drop k bytes = take_all 16 (drop k bytes) (omega (arith, length-drop k bytes)) in
    c.is_text_block.ensures ∙ ap (list_all is_letter_or_break) (c.block_at.ensures ∙ whole)
    ∙ sym (rest-decides is_letter_or_break bytes k c.args.at (omega arith) c.requires.before)
