use Rattle.tabled_set.proofs.Names.{ap, arith, subst, sym, ◌∙◌}
use Rattle.tabled_set.specs.PutBack.{AreCopies, is_saved}
use Rattle.tabled_set.specs.declared.saved_cells.SavedCell.{SavedCell}
use Rattle.tabled_set.proofs.PuttingBack.{copies-more, is_saved-append, row-all, row-more}
use Rattle.tabled_set.proofs.saved_cells.save_row.Goals as goal

pub columns-preserved : goal.columns-preserved
columns-preserved c =
    let cell : SavedCell = record { at = record { row = c.args.row; column = c.columns.column }; text = c.in_ok-text.text } in
    let items = c.in_ok-push.ensures.items in
    record {
      copies =
          subst (AreCopies c.args.records.now) (sym items)
          (copies-more c.args.records.now c.columns.saved.items cell c.columns.invariant.copies (c.in_ok-text.ensures.ok ∙ c.get_text.ensures));
      saved = λ r k.
          row-more (is_saved c.args.saved.now.items r k) (is_saved c.columns.saved.items r k) (is_saved c.push.new.self.items r k) c.args.band.now c.args.row
          c.columns.column r k (omega arith) (omega arith) (c.columns.invariant.saved r k)
          (ap (λ xs. is_saved xs r k) items ∙ is_saved-append c.columns.saved.items cell r k);
    }

pub returns-clause-cells : goal.returns-clause-cells
returns-clause-cells c =
    λ r k.
    row-all (is_saved c.args.saved.now.items r k) (is_saved c.columns.saved.items r k) c.args.band.now c.args.row c.columns.column r k (omega arith) (c.columns.invariant.saved r k)
