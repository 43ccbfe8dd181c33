use Rattle.tabled_records.proofs.Names.{subst, sym, true}
use Rattle.tabled_records.proofs.ViewRuns.{limited_begin, limited_end}
use Rattle.tabled_records.proofs.Runs.{given_whole}
use Rattle.tabled_records.proofs.limits.LimitRowsIntoRecords.iter_rows.Goals as goal

pub returns-clause-ends : goal.returns-clause-ends
returns-clause-ends g c ends =
    let rows = g.R.IterRows in
    let made = subst (rows.IntoIterator.into_iter_gives c.iter_rows.result) (sym c.take.ensures.source) c.into_iter.ensures.into_iter_gives in
    limited_end rows.IntoIter.Iterator.next_gives c.iter_rows.result c.take.result _ (λ it e. e) made (c.iter_rows.ensures.ends ends)

pub returns-clause-begins : goal.returns-clause-begins
returns-clause-begins g c cells whole begun =
    let rows = g.R.IterRows in
    let made = subst (rows.IntoIterator.into_iter_gives c.iter_rows.result) (sym c.take.ensures.source) c.into_iter.ensures.into_iter_gives in
    limited_begin rows.IntoIter.Iterator.next_gives _ c.iter_rows.result c.take.result c.args.self.limit _ (λ it e. e) made c.take.ensures.count
    c.iter_rows.ensures.begins cells whole begun

pub returns-clause-gives : goal.returns-clause-gives
returns-clause-gives g c cells given = returns-clause-begins g c cells true (given_whole given)
