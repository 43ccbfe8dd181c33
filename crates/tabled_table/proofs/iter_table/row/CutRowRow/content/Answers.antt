use Rattle.tabled_table.proofs.Names.{[], ap, arith, get_or-map, get_or_past, length, length-map, map, sym, ◌-◌, ◌∙◌}
use Rattle.tabled_table.proofs.Stream.Drawn.{filled-at}
use Rattle.tabled_table.proofs.iter_table.row.CutRowRow.content.Goals as goal

pub returns : goal.returns
returns g c =
    let row = c.args.self.now in
    let at = c.in-Some.ensures.lookup in
    let texts = map g.C.CellText.text row.cells.now in
    c.measured.ensures ∙ c.text.ensures ∙ ap g.C.CellText.text at.1
    ∙ sym (filled-at texts (row.layout.now.count - length texts) c.args.column
    ∙ get_or-map g.C.CellText.text row.cells.now c.args.column c.in-Some.cell.now [] at.3.0)

pub returns-in_default : goal.returns-in_default
returns-in_default g c =
    let row = c.args.self.now in
    let texts = map g.C.CellText.text row.cells.now in
    let past = c.in_default.ensures.lookup.3 in
    c.new.ensures
    ∙ sym (filled-at texts (row.layout.now.count - length texts) c.args.column
    ∙ get_or_past texts c.args.column [] (omega (arith, past, length-map row.cells.now g.C.CellText.text)))
