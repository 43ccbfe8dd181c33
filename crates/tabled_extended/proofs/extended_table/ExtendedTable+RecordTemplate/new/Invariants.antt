use Rattle.tabled_extended.proofs.Names.{escaped, map, row_texts}
use Rattle.tabled_extended.proofs.MadeRows.{Made}
use Rattle.tabled_extended.proofs.extended_table.ExtendedTable+RecordTemplate.new.Given as goal

abbrev pub invariant-values : goal.invariant-values
invariant-values g l = Made g.I.Item.Tabled.shows (map escaped) l.yielded (row_texts l.records.items)
