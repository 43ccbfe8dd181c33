use Rattle.tabled_table.proofs.Names.{arith, length, min, ◌<◌, ◌∙◌, ◌≡◌}
use Rattle.tabled_table.proofs.Stream.Measures.{tallest-all, tallest-next}
use Rattle.tabled_table.proofs.iter_table.first_rows.tallest_cell.Goals as goal

pub cells-preserved : goal.cells-preserved
cells-preserved g c =
    let inside : c.cells.column < length c.args.cells.now = omega arith in
    c.max-lines.ensures
    ∙ tallest-next g.C.CellText.text c.args.cells.now c.cells.column c.cells.lines c.index-cells-column.result c.count_lines.result inside
    c.index-cells-column.is c.cells.invariant c.count_lines.ensures

pub returns : goal.returns
returns g c =
    let all : c.cells.column ≡ min c.args.count (length c.args.cells.now) = omega arith in
    tallest-all g.C.CellText.text c.args.cells.now c.args.count c.cells.lines (rw all at c.cells.invariant)
