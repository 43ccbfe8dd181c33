use Rattle.tabled_text.proofs.Names.{ap, arith, length-map, ltb, map, mask_l, mask_l-mod, replicate, w8, ◌%◌, ◌^◌, ◌∙◌}
use Rattle.std.proofs.lemmas.Simd.{tops_compared, zip2_splat_left}
use Rattle.tabled_text.proofs.runs.greater.Goals as goal

pub returns : goal.returns
returns c =
    let block = c.args.block in
    let than = c.args.than in
    ap (λ tests. mask_l tests % 2 ^ 64) (tops_compared w8 ltb (replicate 16 than) block ∙ zip2_splat_left ltb than 16 block c.fits-block.0)
    ∙ mask_l-mod (map (ltb than) block) 64 (omega (arith, length-map block (ltb than), c.fits-block.0))
