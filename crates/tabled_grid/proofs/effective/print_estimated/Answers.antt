use Rattle.tabled_grid.proofs.Names.{Bool, List, Option, Prints, Sheet, ap, effective, false, heights_of, is_some, is_stored, not, subst}
use Rattle.tabled_grid.proofs.Names.{true, ℕ, ◌&&◌, ◌≡◌}
use Rattle.tabled_grid.proofs.Printing.{only_estimated}
use Rattle.tabled_grid.proofs.EffectiveSizes.{effective_estimated}
use Rattle.tabled_grid.proofs.effective.print_estimated.Goals as goal

pub returns-clause-printed : goal.returns-clause-printed
returns-clause-printed g c =
    let cells = g.R.ExactRecords.cells c.args.records.now in
    let config = c.args.config.now in
    let new = c.new.result in
    let P : Bool → Sheet → Type 0 = λ estimates t. Prints estimates t (g.S.TextSink.sent c.args.sink.now) c.print_standing.result (g.S.TextSink.sent c.print_standing.new.sink) in
    let missing : is_stored new ≡ false = ap (λ (o : Option (List ℕ)). is_some o && is_some (heights_of new)) c.new.ensures.widths in
    subst (P true) (effective_estimated cells config new c.new.ensures.widths c.new.ensures.heights)
    (subst (λ b. P b (effective cells config new)) (ap not missing) c.print_standing.ensures)

pub returns-clause-only : goal.returns-clause-only
returns-clause-only g c =
    only_estimated (g.R.ExactRecords.cells c.args.records.now) c.args.config.now _ _ c.print_standing.result (returns-clause-printed g c)
