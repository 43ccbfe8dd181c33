use Rattle.tabled_text.proofs.Searched.{lines-split}
use Rattle.tabled_text.proofs.measure.split_line.Goals as goal

pub returns : goal.returns
returns c = lines-split c.args.text.now c.split_at_byte.result.0.now c.split_at_byte.result.1 c.split_at_byte.ensures
