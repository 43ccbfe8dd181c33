use Rattle.std.proofs.Common.{ap, decimal, sym, ◌∙◌}
use Rattle.csv.specs.Records.{fields_of}
use Rattle.tabview_read.proofs.ShownCells.{shown_all, texts-same}
use Rattle.tabview_read.specs.Shown.{number_of, shown_cells}
use Rattle.tabview_read.proofs.stream.Stream.show_row.Goals as goal

pub returns-then-has_no_null : goal.returns-then-has_no_null
returns-then-has_no_null g c =
    let self = c.args.self.now in
    let w = self.wanted.now in
    let row = self.row in
    let name = c.deref.result.now in
    let whole = shown_all w.null.now row (sym c.has_no_null.ensures ∙ c.if-has_no_null.true) in
    let number = ap (number_of w.numbers) c.deref.ensures ∙ c.in_ok-number.ensures in
    c.in_ok-cells_of.ensures
    ∙ texts-same w.numbers w.shown name (decimal c.saturating_add-self.result) (fields_of row.cells) (shown_cells w.null.now row) c.widen.new.self.columns.items number (sym whole)
