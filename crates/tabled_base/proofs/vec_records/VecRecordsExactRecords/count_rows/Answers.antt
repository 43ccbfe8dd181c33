use Rattle.tabled_base.proofs.StoredRows.{listed}
use Rattle.tabled_base.proofs.vec_records.VecRecordsExactRecords.count_rows.Goals as goal

pub returns-in-InList : goal.returns-in-InList
returns-in-InList g c =
    (listed g.T.CellText.text c.self.inside.stored c.in-InList.field-0 c.in-InList.field-1 c.in-InList.rows c.args.self.now
    c.in-InList.is c.self.view_is c.self.invariant).count
