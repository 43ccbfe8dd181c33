use Rattle.tabled_text.proofs.RunLemmas.{filled-block}
use Rattle.tabled_text.proofs.letters.filled.Goals as goal

pub returns : goal.returns
returns c = filled-block c.args.count c.args.block c.block_at-fill.result c.requires c.fits-block.0 c.block_at-fill.ensures
