use Rattle.tabled_grid.proofs.Names.{Prints, Sheet, effective, subst, sym, true, ◌∙◌}
use Rattle.tabled_grid.specs.Printed.{IsChecked}
use Rattle.tabled_grid.proofs.Printing.{refused_so}
use Rattle.tabled_grid.proofs.EffectiveSizes.{answered_filled}
use Rattle.tabled_grid.proofs.effective.print_completed.Goals as goal

pub returns-in_err-sizes : goal.returns-in_err-sizes
returns-in_err-sizes g c =
    refused_so (effective (g.R.ExactRecords.cells c.args.records.now) c.args.config.now c.args.stored.now) _ _ _
    c.requires.filled c.in_err-sizes.ensures c.from_residual.ensures.1

pub print_checked-requires : goal.print_checked-requires
print_checked-requires g c =
    let stored = c.args.stored.now in
    subst IsChecked
    (sym (c.new-grid.ensures ∙ answered_filled (g.R.ExactRecords.cells c.args.records.now) c.args.config.now stored c.in_ok-sizes.sizes c.in_ok-sizes.ensures.0))
    (record { filled = c.requires.filled; sized = c.in_ok-sizes.ensures.1; holds = c.in_ok-sizes.ensures.2 })

pub returns : goal.returns
returns g c =
    let stored = c.args.stored.now in
    let P : Sheet → Type 0 = λ t. Prints true t (g.S.TextSink.sent c.args.sink.now) c.print_checked.result (g.S.TextSink.sent c.print_checked.new.sink) in
    subst P
    (c.new-grid.ensures ∙ answered_filled (g.R.ExactRecords.cells c.args.records.now) c.args.config.now stored c.in_ok-sizes.sizes c.in_ok-sizes.ensures.0)
    c.print_checked.ensures
