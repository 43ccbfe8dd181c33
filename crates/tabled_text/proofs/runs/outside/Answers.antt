use Rattle.tabled_text.proofs.Names.{ap, arith, chunk, ltb, map, map-map, mask_l, w8, ◌%◌, ◌+◌, ◌-◌, ◌∙◌}
use Rattle.std.proofs.lemmas.Simd.{chunk-fits}
use Rattle.tabled_text.proofs.RunLemmas.{same-tests}
use Rattle.tabled_text.proofs.runs.outside.Goals as goal

pub returns : goal.returns
returns c =
    let first = c.args.first in
    let last = c.args.last in
    let block = chunk c.args.at 16 c.args.bytes.now in
    c.greater.ensures
    ∙ ap (λ lowered. mask_l (map (ltb (last - first)) lowered)) (c.lowered.ensures ∙ ap (map (λ byte. (byte + (256 - first)) % 256)) c.block_at.ensures)
    ∙ ap mask_l (map-map (ltb (last - first)) (λ byte. (byte + (256 - first)) % 256) block
    ∙ same-tests first last c.requires.range (omega (arith, c.ranges.last.fits)) block (chunk-fits w8 c.args.at 16 c.args.bytes.now c.type_inv.bytes))
