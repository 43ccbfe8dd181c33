use Rattle.tabled_base.proofs.Names.{ap, arith, ◌∙◌}
use Rattle.tabled_base.proofs.StoredRows.{row-cell, row-column}
use Rattle.tabled_base.proofs.vec_records.VecRecords.cell.Goals as goal

pub bounds-row-at : goal.bounds-row-at
bounds-row-at g c = row-column g.T.CellText.text c.self.inside.stored c.args.self.now _ _ c.row.result.now
    c.self.view_is c.self.invariant c.requires c.row.ensures

pub offset_bounds-row-at : goal.offset_bounds-row-at
offset_bounds-row-at g c =
    let inside = row-column g.T.CellText.text c.self.inside.stored c.args.self.now _ _ c.row.result.now
    c.self.view_is c.self.invariant c.requires c.row.ensures in omega (arith, inside)

pub returns : goal.returns
returns g c =
    let f = g.T.CellText.text in
    let inside = row-column f c.self.inside.stored c.args.self.now _ _ c.row.result.now
    c.self.view_is c.self.invariant c.requires c.row.ensures in
    ap f c.index-row-at.is ∙ row-cell f c.args.self.now c.args.at.row c.args.at.column c.row.result.now _ c.row.ensures inside
