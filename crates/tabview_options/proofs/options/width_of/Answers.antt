use Rattle.tabview_options.proofs.Numbers.{writes_ok}
use Rattle.tabview_options.proofs.options.width_of.Goals as goal

pub returns : goal.returns
returns c = rw c.ok.ensures.value (writes_ok c.args.columns.now c.parse.result c.parse.ensures.value)
