use Rattle.tabled_extended.proofs.Names.{map, row_texts}
use Rattle.tabled_base.specs.Given.{Given}
use Rattle.tabled_extended.proofs.MadeRows.{Made}
use Rattle.tabled_extended.proofs.extended_table.ExtendedTable+RecordTemplate.from_rows.Given as goal

abbrev pub invariant-loop-row : goal.invariant-loop-row
invariant-loop-row g l = Made (Given g.I.IterColumns.IntoIterator.into_iter_gives g.I.IterColumns.IntoIter.Iterator.next_gives)
    (map g.I.Cell.CellText.text) l.yielded (row_texts l.all.items)
