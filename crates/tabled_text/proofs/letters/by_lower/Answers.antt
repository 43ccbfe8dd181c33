use Rattle.tabled_text.proofs.Names.{and_le_r, arith, bit_and, zip2_splat}
use Rattle.tabled_text.proofs.RunLemmas.{looked-up, lower-ok}
use Rattle.tabled_text.proofs.letters.by_lower.Goals as goal

pub swizzle : goal.swizzle
swizzle c = lower-ok c.args.block c.fits-block.0

pub returns : goal.returns
returns c =
    let v = c.args.block in
    looked-up c.args.table (λ x. bit_and x 15) v _ c.fits-block.0 c.fits-block.1 (zip2_splat bit_and v 16 15 c.fits-block.0)
    (λ x h. omega (arith, and_le_r x 15))
