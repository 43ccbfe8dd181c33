use Rattle.tabled_records.proofs.Names.{IsRectangular, ap, columns, subst, sym, ◌∙◌}
use Rattle.tabled_records.proofs.SizedRows.{columns-sized, rectangular-sized}
use Rattle.tabled_records.specs.WrappedLentRows.{wraps}
use Rattle.tabled_records.proofs.wrapped_lent_rows.WrappedLentRowsExactRecords.count_columns.Goals as goal

pub returns-clause-columns : goal.returns-clause-columns
returns-clause-columns c =
    let r = c.self.inside in
    c.count_columns.ensures.columns ∙ sym (columns-sized (wraps r.words) r.widths.items r.rows.now) ∙ ap columns c.self.view_is

pub returns-clause-rectangular : goal.returns-clause-rectangular
returns-clause-rectangular c =
    let r = c.self.inside in
    subst IsRectangular c.self.view_is
    (rectangular-sized (wraps r.words) r.widths.items r.rows.now c.count_columns.ensures.rectangular)
