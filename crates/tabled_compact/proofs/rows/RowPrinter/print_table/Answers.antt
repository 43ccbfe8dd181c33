use Rattle.tabled_compact.proofs.Names.{map, refl}
use Rattle.tabled_compact.proofs.Printings.{prints-ended, prints-stopped}
use Rattle.tabled_compact.proofs.rows.RowPrinter.print_table.Goals as goal

pub returns-in_err-print_wanted_rows : goal.returns-in_err-print_wanted_rows
returns-in_err-print_wanted_rows g c =
    let self = c.args.self.now in
    let put = c.in_err-print_wanted_rows.ensures.put in
    let rows = map (map g.C.CellText.text) put.0 in
    prints-stopped self.lines.columns c.args.window _ _ c.requires.columns rows put.1 (put.0, put.2, refl) c.from_residual.result _ _ _
    c.requires.printable put.3 c.from_residual.ensures.1

pub returns : goal.returns
returns g c =
    let self = c.args.self.now in
    let put = c.in_ok-print_wanted_rows.ensures.put in
    let rows = map (map g.C.CellText.text) put.0 in
    prints-ended self.lines.columns c.args.window _ _ c.requires.columns rows put.1 (put.0, put.2, refl) c.write_tail.result _ _ _ _ _
    c.requires.printable put.3
    (rw c.in_ok-print_wanted_rows.ensures.same at c.write_tail.ensures.printed) c.write_tail.ensures.failed
