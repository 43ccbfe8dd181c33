use Rattle.tabled_value.proofs.Names.{ValuesAdded}
use Rattle.tabled_value.proofs.rows.push_values.Given as goal

abbrev pub invariant-values : goal.invariant-values
invariant-values g l =
    ValuesAdded g.I.Item.Tabled.shows g.I.Item.Tabled.LENGTH l.yielded l.count l.fn.cells.items l.cells.items
