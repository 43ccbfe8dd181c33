use Rattle.tabled_table.proofs.Names.{Bool, inl, subst, sym, true, ◌∙◌, ◌≡◌}
use Rattle.tabled_set.proofs.ChangingCells.{AreChanged-same}
use Rattle.tabled_set.specs.PutBack.{IsPutBack}
use Rattle.tabled_table.specs.Applied.{FailsAt}
use Rattle.tabled_table.proofs.applying.change_part.Goals as goal

pub returns-in-Err-clause-err : goal.returns-in-Err-clause-err
returns-in-Err-clause-err g c =
    let option = c.args.option.now in
    let cells = c.args.records.now in
    let undone : g.O.CellOption.is_undone option ≡ true = sym c.needs_undo.ensures ∙ c.if-not-needs_undo.false in
    let put : IsPutBack c.args.entity cells c.change-2.new.records c.put_back.new.records =
    AreChanged-same (c.put_back.ensures cells c.in_ok-saved.ensures.texts) (λ r k inside. sym (c.in_ok-saved.ensures.cells r k)) in
    subst (λ (u : Bool). FailsAt u (g.O.CellOption.fails option) c.in-Err.e cells c.args.config.now c.args.entity c.put_back.new.records c.change-2.new.cfg) (sym undone)
    (inl (c.change-2.new.records, c.in-Err.ensures.err, put))
