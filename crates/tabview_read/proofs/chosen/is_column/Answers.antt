use Rattle.tabview_read.specs.Columns.{names_in}
use Rattle.tabview_read.proofs.Columns.{is-its_number, none-named}
use Rattle.tabview_read.proofs.chosen.is_column.Goals as goal

pub returns-in-None : goal.returns-in-None
returns-in-None c = is-its_number (names_in c.args.names) c.args.name.now c.args.column c.index_of.result c.eq.result c.eq.ensures c.in-None.ensures c.index_of.ensures

pub returns-in-None-names : goal.returns-in-None-names
returns-in-None-names c =
    let named = c.in-Some.ensures.named in
    absurd (none-named c.args.name.now _ (rw c.in-None-names.is at named))
