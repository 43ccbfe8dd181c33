use Rattle.tabled_table.proofs.Names.{SpannedConfig, cells_of, not, sheet, subst, sym, ◌∙◌}
use Rattle.tabled_grid.proofs.Printing.{prints_nothing}
use Rattle.tabled_grid.specs.Printed.{Prints}
use Rattle.tabled_size.specs.Effective.{effective}
use Rattle.tabled_size.specs.Stored.{is_stored}
use Rattle.tabled_table.proofs.PrintedLines.{empty_lines, written_lines}
use Rattle.tabled_table.proofs.table.Table.write_to.Goals as goal

pub returns-then-is_empty-clause-printed : goal.returns-then-is_empty-clause-printed
returns-then-is_empty-clause-printed g c = prints_nothing (sheet c.args.self.now) _ (sym c.is_empty.ensures.value ∙ c.if-is_empty.true)

pub returns-then-is_empty-clause-lines : goal.returns-then-is_empty-clause-lines
returns-then-is_empty-clause-lines g c = empty_lines c.args.self.now (sym c.is_empty.ensures.value ∙ c.if-is_empty.true)

pub returns-clause-lines : goal.returns-clause-lines
returns-clause-lines g c =
    let table = c.args.self.now in
    let old = g.S.TextSink.sent c.args.sink.now in
    let new = g.S.TextSink.sent c.print_standing.new.sink in
    let P : SpannedConfig → Type 0 =
    λ config. Prints (not (is_stored table.dimension)) (effective (cells_of table) config table.dimension) old c.print_standing.result new in
    written_lines table (not (is_stored table.dimension)) old new c.print_standing.result c.is_empty.ensures.rectangular
    (subst P c.as_ref.ensures c.print_standing.ensures)
