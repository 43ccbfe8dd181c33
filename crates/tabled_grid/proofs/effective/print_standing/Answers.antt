use Rattle.tabled_grid.proofs.Names.{Bool, Prints, Sheet, ap, effective, false, not, subst, sym, ◌∙◌}
use Rattle.tabled_grid.proofs.Printing.{prints_nothing}
use Rattle.tabled_grid.proofs.EffectiveSizes.{answered_complete}
use Rattle.tabled_grid.proofs.effective.print_standing.Goals as goal

pub returns-then-is_empty : goal.returns-then-is_empty
returns-then-is_empty g c =
    prints_nothing (effective (g.R.ExactRecords.cells c.args.records.now) c.args.config.now c.args.stored.now) _ (sym c.is_empty.ensures.value ∙ c.if-is_empty.true)

pub returns-then-is_complete : goal.returns-then-is_complete
returns-then-is_complete g c =
    let cells = g.R.ExactRecords.cells c.args.records.now in
    let t = effective cells c.args.config.now c.args.stored.now in
    let stored = sym c.is_complete.ensures ∙ c.if-is_complete.true in
    let P : Bool → Sheet → Type 0 = λ estimates t. Prints estimates t (g.S.TextSink.sent c.args.sink.now) c.print_grid.result (g.S.TextSink.sent c.print_grid.new.sink) in
    subst (λ b. P b t) (ap not (sym stored))
    (subst (P false) (answered_complete cells c.args.config.now c.args.stored.now stored) c.print_grid.ensures)

pub returns : goal.returns
returns g c =
    let P : Bool → Type 0 = λ estimates. Prints estimates (effective (g.R.ExactRecords.cells c.args.records.now) c.args.config.now c.args.stored.now)
    (g.S.TextSink.sent c.args.sink.now) c.print_completed.result (g.S.TextSink.sent c.print_completed.new.sink) in
    subst P (ap not (sym (sym c.is_complete.ensures ∙ c.if-is_complete.false))) c.print_completed.ensures
