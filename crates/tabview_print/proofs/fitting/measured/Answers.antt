use Rattle.std.proofs.Common.{Some, ap, unwrap_or, ◌∙◌, ◌≡◌}
use Rattle.tabled_size.specs.Estimates.{estimated_heights, estimated_widths}
use Rattle.tabled_size.specs.Sheet.{estimated}
use Rattle.tabled_size.specs.Stored.{heights_of, widths_of}
use Rattle.tabview_print.proofs.FittedTables.{effective-stored}
use Rattle.tabview_print.proofs.Printing.{error-only, ok-so}
use Rattle.tabview_print.proofs.Ranges.{early-estimated, early-total, total-known}
use Rattle.tabview_print.specs.PrintedTables.{StopsBeforePrinting}
use Rattle.tabview_print.proofs.fitting.measured.Goals as goal

pub returns-in_err-estimate-clause-only : goal.returns-in_err-estimate-clause-only
returns-in_err-estimate-clause-only c =
    let cells = c.args.records.now in
    let config = c.args.config.now in
    error-only (StopsBeforePrinting (estimated cells config)) c.from_residual.result _ c.from_residual.ensures.1
    (early-estimated cells config c.args.sizes.now _ c.in_err-estimate.ensures.only)

pub returns-clause-total : goal.returns-clause-total
returns-clause-total c =
    let cells = c.args.records.now in
    let config = c.args.config.now in
    let filled = c.in_ok-estimate.ensures.ok in
    let w = filled.widths ∙ ap (λ o. Some (unwrap_or o (estimated_widths cells config))) c.requires.no_widths in
    let h = filled.heights ∙ ap (λ o. Some (unwrap_or o (estimated_heights cells config))) c.requires.no_heights in
    total-known cells config c.estimate.new.self c.total_width.result (effective-stored cells config c.estimate.new.self w h)
    c.total_width.ensures.empty c.total_width.ensures.filled

pub returns-clause-only : goal.returns-clause-only
returns-clause-only c =
    let cells = c.args.records.now in
    let config = c.args.config.now in
    let filled = c.in_ok-estimate.ensures.ok in
    let w = filled.widths ∙ ap (λ o. Some (unwrap_or o (estimated_widths cells config))) c.requires.no_widths in
    let h = filled.heights ∙ ap (λ o. Some (unwrap_or o (estimated_heights cells config))) c.requires.no_heights in
    early-total cells config c.estimate.new.self c.total_width.result (effective-stored cells config c.estimate.new.self w h)
    c.total_width.ensures.empty c.total_width.ensures.filled

pub returns-clause-widths : goal.returns-clause-widths
returns-clause-widths c =
    let cells = c.args.records.now in
    let config = c.args.config.now in
    let filled = c.in_ok-estimate.ensures.ok in
    ok-so c.total_width.result (widths_of c.estimate.new.self ≡ Some (estimated_widths cells config))
    (filled.widths ∙ ap (λ o. Some (unwrap_or o (estimated_widths cells config))) c.requires.no_widths)

pub returns-clause-heights : goal.returns-clause-heights
returns-clause-heights c =
    let cells = c.args.records.now in
    let config = c.args.config.now in
    let filled = c.in_ok-estimate.ensures.ok in
    ok-so c.total_width.result (heights_of c.estimate.new.self ≡ Some (estimated_heights cells config))
    (filled.heights ∙ ap (λ o. Some (unwrap_or o (estimated_heights cells config))) c.requires.no_heights)
