use Rattle.tabled_text.proofs.Names.{arith, zip2_splat, ◌/◌, ◌^◌}
use Rattle.tabled_text.proofs.RunLemmas.{looked-up, upper-ok}
use Rattle.tabled_text.proofs.letters.by_upper.Goals as goal

pub swizzle : goal.swizzle
swizzle c = upper-ok c.args.block c.fits-block.0 c.fits-block.1

pub returns : goal.returns
returns c =
    let v = c.args.block in
    looked-up c.args.table (λ x. x / 16) v _ c.fits-block.0 c.fits-block.1 (zip2_splat (λ a b. a / 2 ^ b) v 16 4 c.fits-block.0) (λ x h. omega arith)
