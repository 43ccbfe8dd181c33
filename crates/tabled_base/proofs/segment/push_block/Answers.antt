use Rattle.tabled_base.proofs.Names.{Cell, ap, append_assoc, arith, between, block, map, sym, ◌++◌, ◌∙◌}
use Rattle.tabled_base.proofs.Lengthening.{on-err}
use Rattle.tabled_base.proofs.PickedCells.{between-end, block-more, block-some}
use Rattle.tabled_base.proofs.segment.push_block.Goals as goal

pub loop-row-preserved : goal.loop-row-preserved
loop-row-preserved c =
    let old = c.args.all.now.items in
    let from = c.args.rows.0 in
    let to = c.loop-row.row in
    let columns = between c.args.columns.0 c.args.columns.1 in
    record {
      items =
          c.in_ok-push_row.ensures.ok ∙ ap (λ l. l ++ map (Cell to) columns) c.loop-row.invariant.items
          ∙ append_assoc old (block (between from to) columns) (map (Cell to) columns)
          ∙ ap (λ l. old ++ l) (sym (block-more from to columns (omega arith)));
      reached = omega arith;
    }

pub returns-clause-ok : goal.returns-clause-ok
returns-clause-ok c =
    let old = c.args.all.now.items in
    let from = c.args.rows.0 in
    let columns = between c.args.columns.0 c.args.columns.1 in
    c.loop-row.invariant.items ∙ ap (λ l. old ++ block l columns) (between-end from c.loop-row.row c.args.rows.1 (omega arith))

pub returns-in_err-push_row-clause-some : goal.returns-in_err-push_row-clause-some
returns-in_err-push_row-clause-some c =
    on-err c.from_residual.result
    (block-some c.args.rows.0 c.args.rows.1 c.args.columns.0 c.args.columns.1 (omega arith) c.in_err-push_row.ensures.some)
