use Rattle.tabled_records.proofs.Names.{BufBegin, ap, cells_ahead, length, subst, sym, true, ◌∙◌}
use Rattle.tabled_records.proofs.BufferedRuns.{buf_begin, buf_end}
use Rattle.tabled_records.proofs.Runs.{given_whole}
use Rattle.tabled_records.proofs.buffer.BufRecordsIntoRecords.iter_rows.Goals as goal

pub returns-clause-ends : goal.returns-clause-ends
returns-clause-ends g c ends =
    let cells = g.R.IterColumns in
    buf_end g.R.IterRows.IntoIter.Iterator.next_gives cells.IntoIterator.into_iter_gives cells.IntoIter.Iterator.can_next
    cells.IntoIter.Iterator.remaining _ (λ row it e. e) _ _ (λ it e. e) ends

pub returns-clause-begins : goal.returns-clause-begins
returns-clause-begins g c cells whole begun =
    let columns = g.R.IterColumns in
    let k = c.into_iter.ensures in
    let steps = g.R.IterRows.IntoIter.Iterator.next_gives in
    subst (λ l. BufBegin steps columns.IntoIterator.into_iter_gives columns.IntoIter.Iterator.next_gives (cells_ahead l) c.args.self.rows cells whole) k.rest
    (buf_begin steps columns.IntoIterator.into_iter_gives columns.IntoIter.Iterator.next_gives _ (λ row it e. e) _ _ (λ it e. e)
    (k.len ∙ c.args.self.ahead.ok.0 ∙ sym (ap length k.rest)) begun)

pub returns-clause-gives : goal.returns-clause-gives
returns-clause-gives g c cells given = returns-clause-begins g c cells true (given_whole given)
