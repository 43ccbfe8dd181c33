use Rattle.tabled_base.proofs.Names.{IsRectangular, ap, append-nil, row_texts, subst, sym, ◌++◌, ◌∙◌, ◌≡◌}
use Rattle.tabled_base.proofs.StoredRows.{whole-rectangular}
use Rattle.tabled_base.proofs.vec_records.VecRecords+Text+String.copied_rows.Goals as goal

pub returns-clause-rectangular : goal.returns-clause-rectangular
returns-clause-rectangular c =
    let all : row_texts c.loop-row.copy.items ≡ c.args.self.now =
    sym (append-nil (row_texts c.loop-row.copy.items)) ∙ ap (λ l. row_texts c.loop-row.copy.items ++ l) (sym c.in-None.ensures.steps.0)
    ∙ c.loop-row.invariant in
    subst IsRectangular (sym all) (whole-rectangular (λ t. t) c.self.inside.stored c.args.self.now c.self.view_is c.self.invariant)
