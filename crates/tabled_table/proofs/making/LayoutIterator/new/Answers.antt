use Rattle.tabled_table.proofs.Progressions.{get_batches}
use Rattle.tabled_table.proofs.making.LayoutIterator.new.Goals as goal

pub returns : goal.returns
returns c = get_batches c.args.from c.args.to c.args.batch
