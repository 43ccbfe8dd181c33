use Rattle.tabled_set.proofs.Names.{AreChanged, arith, for_content_size, if_taken, subst, sym, true}
use Rattle.tabled_set.proofs.RewrittenRecords.{rows-changed, rows-more, rows-none}
use Rattle.tabled_set.proofs.rewriting.changed_records.Goals as goal

pub rows-init : goal.rows-init
rows-init g c = rows-none _ _ _ c.new-writer.ensures

pub rows-preserved : goal.rows-preserved
rows-preserved g c = rows-more _ _ c.rows.row _ _ c.rows.invariant c.in_ok-push_row.ensures.ok

pub returns-clause-ok : goal.returns-clause-ok
returns-clause-ok g c =
    let by = c.args.by.now in
    let cells = g.R.ExactRecords.cells c.args.records.now in
    let made = if_taken by.cell_filter (g.T.TextTransform.makes by.transform.now) in
    let change = for_content_size made (g.M.ContentSizes.content_size_at by.content_sizes.now) in
    subst (AreChanged (λ row column. true) change cells) (sym c.finish.ensures)
    (rows-changed change cells c.rows.row c.rows.writer (omega arith) c.rows.invariant c.count_columns-columns.ensures.rectangular)
