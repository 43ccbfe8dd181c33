use Rattle.tabled_text.proofs.Names.{zip2_splat, ◌%◌, ◌+◌, ◌-◌}
use Rattle.tabled_text.proofs.runs.lowered.Goals as goal

pub returns : goal.returns
returns c = zip2_splat (λ a b. (a + (256 - b)) % 256) c.args.block 16 c.args.by c.fits-block.0
