use Rattle.tabled_value.proofs.Names.{FieldsAdded, row_texts}
use Rattle.tabled_value.proofs.rows.field_records.Given as goal

abbrev pub invariant-values : goal.invariant-values
invariant-values g l = FieldsAdded g.I.Item.Tabled.shows g.I.Item.Tabled.names l.yielded (row_texts l.rows.items)
