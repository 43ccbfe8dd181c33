use Rattle.tabled_records.proofs.Names.{AreRanges, IsRectangular, ap, columns, lengthened_rows-rectangular, parts, subst, sym, texts_from}
use Rattle.tabled_records.proofs.Names.{◌∙◌}
use Rattle.tabled_records.proofs.Joining.{length-texts}
use Rattle.tabled_records.proofs.Rows.{rows-columns}
use Rattle.tabled_records.proofs.joined_records.LentRowsExactRecords.count_columns.Goals as goal

pub returns-clause-columns : goal.returns-clause-columns
returns-clause-columns c =
    let r = c.self.inside in
    let texts = texts_from 1 r.text.now 0 r.cells in
    let there = subst (λ n. AreRanges n r.rows) (sym (length-texts 1 r.text.now 0 r.cells)) c.self.invariant.ranges in
    c.columns.ensures ∙ rows-columns texts r.rows there ∙ ap columns c.self.view_is

pub returns-clause-rectangular : goal.returns-clause-rectangular
returns-clause-rectangular c =
    let r = c.self.inside in
    subst IsRectangular c.self.view_is (lengthened_rows-rectangular (parts (texts_from 1 r.text.now 0 r.cells) r.rows))
