use Rattle.tabled_table.proofs.Names.{arith, length-map, map}
use Rattle.tabled_table.proofs.Stream.Drawn.{nothing-further}
use Rattle.tabled_table.proofs.iter_table.row.CutRowRow.count_drawn.Goals as goal

pub returns-clause-rest : goal.returns-clause-rest
returns-clause-rest g c column index l m =
    let row = c.args.self.now in
    let as_many = length-map row.cells.now g.C.CellText.text in
    nothing-further row.layout.now row.height (map g.C.CellText.text row.cells.now) column index (c.takes_more.ensures c.if-takes_more.false)
    (omega (arith, l, m, c.min.ensures, c.max-known.ensures, c.len.ensures))
    (omega (arith, l, m, as_many, c.min.ensures, c.max-known.ensures)) m
