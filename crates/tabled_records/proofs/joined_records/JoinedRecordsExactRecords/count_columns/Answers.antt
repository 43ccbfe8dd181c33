use Rattle.tabled_records.proofs.Names.{IsRectangular, ap, columns, lengthened_rows-rectangular, parts, subst, ◌∙◌}
use Rattle.tabled_records.proofs.Rows.{rows-columns}
use Rattle.tabled_records.proofs.joined_records.JoinedRecordsExactRecords.count_columns.Goals as goal

pub returns-clause-columns : goal.returns-clause-columns
returns-clause-columns c =
    let r = c.self.inside in
    c.columns.ensures ∙ rows-columns r.texts r.rows c.self.invariant ∙ ap columns c.self.view_is

pub returns-clause-rectangular : goal.returns-clause-rectangular
returns-clause-rectangular c =
    let r = c.self.inside in
    subst IsRectangular c.self.view_is (lengthened_rows-rectangular (parts r.texts r.rows))
