use Rattle.tabled_set.proofs.Names.{ap, cell_at, subst, sym, true, ◌++◌, ◌∙◌, ◌≡◌}
use Rattle.tabled_set.specs.CellChanges.{is_taken}
use Rattle.tabled_set.specs.Truncated.{ended_text}
use Rattle.tabled_set.proofs.RewrittenRecords.{adds-as, taken-made}
use Rattle.tabled_set.proofs.resize.Change.push_cell.Goals as goal

pub returns-clause-ok : goal.returns-clause-ok
returns-clause-ok g c =
    let by = c.args.self.now in
    let makes = g.T.TextTransform.makes by.transform.now in
    let cell = cell_at (g.R.ExactRecords.cells c.args.records.now) c.args.at.row c.args.at.column in
    let text = c.get_measured-columns.result.0.now in
    let n = c.in-Some.content_size in
    let kept = c.in-Some-beginning.kept in
    let ending = kept.ending.now in
    let taken : is_taken by.cell_filter n cell ≡ true =
    cc (c.if-not-takes.false, c.takes.ensures, c.get_measured-columns.ensures.columns, c.get_measured-columns.ensures.lines) in
    let made = subst (λ t. makes n t (ended_text kept text)) c.get_measured-columns.ensures.text c.in-Some-beginning.ensures.made in
    adds-as c.push_ended.result _ _ _ _ c.push_ended.ensures.ok
    (λ after is.
    taken-made by.cell_filter makes _ n cell after (sym c.content_size.ensures ∙ c.in-Some.is) taken
    (subst (makes n cell) (sym (is ∙ ap (λ l. l ++ ending) c.split_at.ensures.front)) made))
