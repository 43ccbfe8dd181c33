use Rattle.tabled_grid.proofs.Names.{FailsToPrint, Memory, effective, ◌≡◌, ◌⊎◌}
use Rattle.tabled_grid.proofs.EffectiveSizes.{handed_on, refused_unestimated}
use Rattle.tabled_grid.proofs.effective.complete.Goals as goal

pub returns-in_err-estimate : goal.returns-in_err-estimate
returns-in_err-estimate g c =
    let cells = g.R.ExactRecords.cells c.args.records.now in
    let t = effective cells c.args.config.now c.args.stored.now in
    handed_on _ (λ e. (e ≡ Memory) ⊎ FailsToPrint t e) c.from_residual-in_err-estimate.result _ c.from_residual-in_err-estimate.ensures.1
    (refused_unestimated cells c.args.config.now c.args.stored.now c.in_ok-sizes.sizes _
    c.in_ok-sizes.ensures.widths c.in_ok-sizes.ensures.heights
    c.in_ok-check_stored.ensures.0 c.in_ok-check_stored.ensures.1 c.in_err-estimate.ensures.only)
