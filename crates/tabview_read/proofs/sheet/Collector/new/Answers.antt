use Rattle.std.proofs.Common.{refl}
use Rattle.tabview_read.proofs.Lines.{HasLines-none}
use Rattle.tabview_read.proofs.sheet.Collector.new.Goals as goal

pub returns : goal.returns
returns c = HasLines-none _ _ refl c.new-writer.ensures
