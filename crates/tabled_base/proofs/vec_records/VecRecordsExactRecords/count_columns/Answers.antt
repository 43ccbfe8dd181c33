use Rattle.tabled_base.proofs.StoredRows.{whole-rectangular}
use Rattle.tabled_base.proofs.vec_records.VecRecordsExactRecords.count_columns.Goals as goal

pub returns-else-rows-eq0-clause-rectangular : goal.returns-else-rows-eq0-clause-rectangular
returns-else-rows-eq0-clause-rectangular g c =
    whole-rectangular g.T.CellText.text c.self.inside.stored c.args.self.now c.self.view_is c.self.invariant
