use Rattle.tabled_line.proofs.Names.{ap, drop, row_line, ◌∙◌, ◌≡◌}
use Rattle.tabled_line.proofs.line_printer.LinePrinter.write_row_line.Goals as goal

pub returns-clause-printed : goal.returns-clause-printed
returns-clause-printed g c =
    let line : drop 1 c.text.result.now ≡ row_line (g.R.Row.sheet c.args.row.now) c.args.line.now.index =
    ap (drop 1) (c.text.ensures ∙ c.in-Some-fill_line.ensures.filled.line) in
    rw line at c.write_feed_and_line.ensures
