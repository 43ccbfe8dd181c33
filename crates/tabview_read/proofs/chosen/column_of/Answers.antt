use Rattle.tabview_read.specs.Columns.{names_in}
use Rattle.tabview_read.proofs.Columns.{none-meant}
use Rattle.tabview_read.proofs.chosen.column_of.Goals as goal

pub returns-in_default-index_of : goal.returns-in_default-index_of
returns-in_default-index_of c = none-meant (names_in c.args.names) c.args.count c.args.name.now c.in_default.ensures c.in_default-index_of.ensures
