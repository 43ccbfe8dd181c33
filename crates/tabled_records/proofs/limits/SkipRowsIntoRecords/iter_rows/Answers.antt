use Rattle.tabled_records.proofs.Names.{changed_of, true}
use Rattle.tabled_records.proofs.ViewRuns.{later_end, later_rows}
use Rattle.tabled_records.proofs.Runs.{given_whole}
use Rattle.tabled_records.proofs.limits.SkipRowsIntoRecords.iter_rows.Goals as goal

pub returns-clause-ends : goal.returns-clause-ends
returns-clause-ends g c ends =
    let cells = g.R.IterColumns in
    later_end g.R.IterRows.IntoIter.Iterator.next_gives cells.IntoIterator.into_iter_gives cells.IntoIter.Iterator.next_gives
    g.R.IterRows.IntoIterator.into_iter_gives c.iter_rows.result
    _ _ (λ it e. e) c.into_iter.ensures.into_iter_gives (c.iter_rows.ensures.ends ends)

pub returns-clause-begins : goal.returns-clause-begins
returns-clause-begins g c cells whole begun =
    let columns = g.R.IterColumns in
    changed_of (λ all. c.iter_rows.ensures.begins all whole)
    (later_rows g.R.IterRows.IntoIter.Iterator.next_gives columns.IntoIterator.into_iter_gives columns.IntoIter.Iterator.next_gives
    g.R.IterRows.IntoIterator.into_iter_gives c.iter_rows.result
    _ _ (λ it e. e) c.into_iter.ensures.into_iter_gives begun)

pub returns-clause-gives : goal.returns-clause-gives
returns-clause-gives g c cells given =
    changed_of (g.met.R.IntoRecords.whole_rows c.args.self.records) (returns-clause-begins g c cells true (given_whole given))
