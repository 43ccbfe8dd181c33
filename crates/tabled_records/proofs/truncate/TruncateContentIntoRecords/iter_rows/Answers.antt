use Rattle.tabled_records.proofs.Names.{Drains, IsFinite, ap, changed_of, cut_cells_steps, subst, sym, true, with_widths, ◌∙◌, ◌≡◌}
use Rattle.tabled_records.proofs.ViewRuns.{cut_drained}
use Rattle.tabled_records.proofs.Runs.{given_whole, made_begin, made_end}
use Rattle.tabled_records.proofs.truncate.TruncateContentIntoRecords.iter_rows.Goals as goal

pub returns-clause-ends : goal.returns-clause-ends
returns-clause-ends g c ends =
    let cells = g.R.IterColumns in
    made_end (λ s. s.rows) (λ s. s.widths.now) g.R.IterRows.IntoIter.Iterator.next_gives
    (λ widths row x. cells.IntoIterator.into_iter_gives row x.cells × (x.widths.now ≡ widths)) c.iter_rows.result _ _
    (λ it e. e) c.into_iter.ensures.into_iter_gives
    (λ row x made can it same. subst (λ s. cells.IntoIter.Iterator.can_next s.cells × IsFinite (cells.IntoIter.Iterator.remaining s.cells)) (sym same)
    (can x.cells made.0))
    (c.iter_rows.ensures.ends ends)

pub returns-clause-begins : goal.returns-clause-begins
returns-clause-begins g c cells whole begun =
    let columns = g.R.IterColumns in
    let steps = columns.IntoIter.Iterator.next_gives in
    changed_of (λ all. c.iter_rows.ensures.begins all whole)
    (made_begin (λ s. s.rows) (λ s. s.widths.now) g.R.IterRows.IntoIter.Iterator.next_gives
    (λ widths row x. columns.IntoIterator.into_iter_gives row x.cells × (x.widths.now ≡ widths)) (with_widths c.args.self.widths.now) _ _ (λ it e. e)
    c.into_iter.ensures.into_iter_gives
    (λ row x items made cells.
    let d = cut_drained steps x items (subst (λ s. Drains (cut_cells_steps steps) s items) cells.made cells.drained) in
    (d.0, record { iterator = x.cells; made = made.0; drained = d.1 }, d.2 ∙ ap (λ n. with_widths n d.0) made.1)) begun)

pub returns-clause-gives : goal.returns-clause-gives
returns-clause-gives g c cells given =
    changed_of (g.met.R.IntoRecords.whole_rows c.args.self.records) (returns-clause-begins g c cells true (given_whole given))
