use Rattle.tabled_set.proofs.Names.{ap, arith, for_content_size, if_taken, on_ok_weaker, refl, ◌∙◌}
use Rattle.tabled_records.specs.Joined.{Written}
use Rattle.tabled_set.proofs.RewrittenRecords.{adds-row, made-more, made-none}
use Rattle.tabled_set.proofs.resize.Change.push_row.Goals as goal

pub columns-init : goal.columns-init
columns-init g c = record { rows = refl; made = made-none _ _ c.args.row _ c.requires.empty }

pub columns-preserved : goal.columns-preserved
columns-preserved g c =
    let next = c.in_ok-push_cell.ensures.ok in
    record {
      rows = ap (λ (w : Written). w.rows) next.added ∙ c.columns.invariant.rows;
      made = made-more _ _ c.args.row c.columns.column _ _ c.columns.invariant.made next;
    }

pub returns-clause-ok : goal.returns-clause-ok
returns-clause-ok g c =
    let by = c.args.self.now in
    let made = if_taken by.cell_filter (g.T.TextTransform.makes by.transform.now) in
    let change = for_content_size made (g.M.ContentSizes.content_size_at by.content_sizes.now) in
    on_ok_weaker c.end_row.result
    (adds-row change (g.R.ExactRecords.cells c.args.records.now) c.args.row c.columns.column c.args.writer.now c.columns.writer c.end_row.new.self (omega arith) c.columns.invariant.made
    c.columns.invariant.rows)
    c.end_row.ensures.ok
