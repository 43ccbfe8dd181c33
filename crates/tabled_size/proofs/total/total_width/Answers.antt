use Rattle.tabled_size.proofs.Names.{List, Option, Some, ap, columns, effective_sizes, estimated_widths, filled_width, option_map, refl}
use Rattle.tabled_size.proofs.Names.{sym, ℕ, ◌∙◌}
use Rattle.tabled_base.specs.declared.error.TableError.TheVariants.{ShortWidths}
use Rattle.tabled_size.specs.Stored.{widths_of}
use Rattle.tabled_size.proofs.Passing.{too_wide_passes}
use Rattle.tabled_size.proofs.Totalling.{reached_estimates, reached_stands, total_moved, total_refused, widths_length}
use Rattle.tabled_size.proofs.total.total_width.Goals as goal

pub returns-in-Some-clause-filled : goal.returns-in-Some-clause-filled
returns-in-Some-clause-filled g c =
    let cells = g.R.ExactRecords.cells c.args.records.now in
    let stored = sym c.get_widths.ensures ∙ ap (option_map (λ s. s.now)) c.in-Some.is in
    λ h. total_moved ShortWidths (filled_width c.args.config.now) _ (columns cells) _ _ _ c.count_columns-columns.ensures.columns
    (reached_stands (widths_of c.args.stored.now) c.in-Some.field-0.now (estimated_widths cells c.args.config.now)
    (columns cells) c.count_columns-columns.result stored c.count_columns-columns.ensures.columns)
    c.reached_width.ensures.answers

pub returns-in_err-estimate_widths-in-None-clause-filled : goal.returns-in_err-estimate_widths-in-None-clause-filled
returns-in_err-estimate_widths-in-None-clause-filled g c =
    let cells = g.R.ExactRecords.cells c.args.records.now in
    let sizes : Option (List ℕ) → List ℕ = λ o. effective_sizes o (estimated_widths cells c.args.config.now) (columns cells) in
    let stored = ap (option_map (λ s. s.now)) (sym c.in-None.is) ∙ c.get_widths.ensures in
    λ h. total_moved ShortWidths (filled_width c.args.config.now) (columns cells) (columns cells) _ _ _ refl (ap sizes stored)
    (total_refused ShortWidths (filled_width c.args.config.now) _ (columns cells) _ _ _ (widths_length cells c.args.config.now)
    (too_wide_passes cells c.args.config.now) c.in_err-estimate_widths-in-None.ensures.err c.from_residual.ensures.1)

pub returns-in_ok-estimate_widths-in-None-clause-filled : goal.returns-in_ok-estimate_widths-in-None-clause-filled
returns-in_ok-estimate_widths-in-None-clause-filled g c =
    let cells = g.R.ExactRecords.cells c.args.records.now in
    let sizes : Option (List ℕ) → List ℕ = λ o. effective_sizes o (estimated_widths cells c.args.config.now) (columns cells) in
    let stored = ap (option_map (λ s. s.now)) (sym c.in-None.is) ∙ c.get_widths.ensures in
    λ h. total_moved ShortWidths (filled_width c.args.config.now) _ (columns cells) _ _ _ c.count_columns-columns.ensures.columns
    (reached_estimates (widths_of c.set_widths.new.self) (estimated_widths cells c.args.config.now) (columns cells)
    c.count_columns-columns.result (c.set_widths.ensures.widths ∙ ap Some c.in_ok-estimate_widths-in-None.ensures.ok)
    (widths_length cells c.args.config.now) c.count_columns-columns.ensures.columns ∙ ap sizes stored)
    c.reached_width-in-None.ensures.answers
