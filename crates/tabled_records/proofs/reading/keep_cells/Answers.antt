use Rattle.tabled_records.proofs.Names.{[], ap, append-nil, append_assoc, refl, sym, ◌++◌, ◌∙◌, ◌∷◌}
use Rattle.tabled_records.proofs.ViewRuns.{walked_more}
use Rattle.tabled_records.proofs.Joining.{on-err}
use Rattle.tabled_records.proofs.reading.keep_cells.Goals as goal

pub cells-init : goal.cells-init
cells-init g c = record {
  kept = sym (append-nil c.args.row.now.items);
  walked = record { items = []; yielded = refl; may = c.requires.can; finite = c.requires.finite };
}

pub cells-preserved : goal.cells-preserved
cells-preserved g c = record {
  kept = c.in_ok-push.ensures.items ∙ ap (λ items. items ++ c.in-Some.cell ∷ []) c.cells.invariant.kept
      ∙ append_assoc c.args.row.now.items c.cells.yielded (c.in-Some.cell ∷ []);
  walked = walked_more c.in-Some.cell c.in-Some.is c.cells.invariant.walked c.next.ensures.steps c.next.ensures.goes;
}

pub returns-in_err-push-clause-err : goal.returns-in_err-push-clause-err
returns-in_err-push-clause-err g c =
    on-err c.from_residual.result
    (walked_more c.in-Some.cell c.in-Some.is c.cells.invariant.walked c.next.ensures.steps c.next.ensures.goes)
