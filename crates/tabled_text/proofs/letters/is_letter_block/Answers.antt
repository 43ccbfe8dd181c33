use Rattle.tabled_text.proofs.Names.{arith, cond, is_letter_byte, ltb, refl, splat_is_map, zip2_of_maps}
use lib.Bits.{bit_and}
use Rattle.tabled_text.proofs.RunLemmas.{all-lanes}
use Rattle.tabled_text.proofs.letters.is_letter_block.Goals as goal

pub returns : goal.returns
returns c =
    let v = c.args.block in
    let kinds = zip2_of_maps bit_and _ _ v c.by_upper.ensures c.by_lower.ensures in
    all-lanes _ is_letter_byte v _ (omega (arith, c.fits-block.0)) c.fits-block.1
    (zip2_of_maps (λ a b. cond (ltb a b) 255 0) _ _ v (splat_is_map v 16 0 c.fits-block.0) kinds) refl
