use Rattle.tabview_read.proofs.Parts.{at-HasNumbers}
use Rattle.tabview_read.proofs.document.Document.row.Goals as goal

pub returns-in-Array : goal.returns-in-Array
returns-in-Array c = at-HasNumbers c.at.result c.args.row _ c.args.self.now.writable c.at.ensures
