use Rattle.tabled_grid.proofs.Names.{FailsToPrint, ap, columns, effective, estimated_heights, estimated_widths, heights_length, heights_of}
use Rattle.tabled_grid.proofs.Names.{length, reached, stored_at, subst, sym, widths_length, widths_of, ◌<◌, ◌∙◌, ◌≤◌}
use Rattle.std.proofs.Common.{option_map}
use Rattle.tabled_grid.proofs.EffectiveSizes.{handed_on, held_estimated, held_stored, high_refused, narrow_refused, narrow_stored}
use Rattle.tabled_grid.proofs.EffectiveSizes.{sized_heights, sized_widths, sizes_estimated, sizes_short}
use Rattle.tabled_grid.proofs.checks.check_stored.Goals as goal

pub returns-in_err-check_widths-in-Some : goal.returns-in_err-check_widths-in-Some
returns-in_err-check_widths-in-Some g c =
    let cells = g.R.ExactRecords.cells c.args.records.now in
    let stored = c.args.stored.now in
    let some = sym c.get_widths.ensures ∙ ap (option_map (λ s. s.now)) c.in-Some.is in
    let cause = c.in_err-check_widths-in-Some.ensures.err in
    let P = FailsToPrint (effective cells c.args.config.now stored) in
    handed_on _ P c.from_residual.result _ c.from_residual.ensures.1
    (subst P (sym cause.0) (sizes_short (widths_of stored) c.in-Some.field-0.now (estimated_widths cells c.args.config.now) (columns cells) _
    c.count_columns.ensures.columns some cause.1))

pub returns-in_ok-check_widths-in-Some : goal.returns-in_ok-check_widths-in-Some
returns-in_ok-check_widths-in-Some g c =
    let cells = g.R.ExactRecords.cells c.args.records.now in
    let config = c.args.config.now in
    let stored = c.args.stored.now in
    let list = c.in-Some.field-0.now in
    let some = sym c.get_widths.ensures ∙ ap (option_map (λ s. s.now)) c.in-Some.is in
    narrow_refused c.check_narrow-in-Some.result (effective cells config stored)
    (sized_widths cells config stored list _ c.count_columns.ensures.columns some c.requires c.in_ok-check_widths-in-Some.ensures.ok)
    (held_stored cells config _ stored list some (rw c.new.ensures at c.check_narrow-in-Some.ensures.ok))
    (narrow_stored cells config _ stored list some (rw c.new.ensures at c.check_narrow-in-Some.ensures.err))

pub returns-in-Some-get_heights : goal.returns-in-Some-get_heights
returns-in-Some-get_heights g c =
    let cells = g.R.ExactRecords.cells c.args.records.now in
    let config = c.args.config.now in
    let stored = c.args.stored.now in
    let list = c.in-Some-get_heights.field-0.now in
    let none = sym c.get_widths.ensures ∙ ap (option_map (λ s. s.now)) c.in-None.is in
    let some = sym c.get_heights.ensures ∙ ap (option_map (λ s. s.now)) c.in-Some-get_heights.is in
    let n = c.count_rows.result in
    let known = length (reached (stored_at (heights_of stored)) n) in
    high_refused c.check_heights.result (effective cells config stored) (n ≤ known) (known < n)
    (λ h. sized_heights cells config stored list n c.count_rows.ensures none some h) (held_estimated cells config stored none)
    (λ h. (
      sizes_estimated (widths_of stored) (estimated_widths cells config) (columns cells) (widths_length cells config) none,
      sizes_short (heights_of stored) list (estimated_heights cells config) (length cells) n c.count_rows.ensures some h,
    ))
    c.check_heights.ensures.ok c.check_heights.ensures.err

pub returns-in-None-get_heights : goal.returns-in-None-get_heights
returns-in-None-get_heights g c =
    let cells = g.R.ExactRecords.cells c.args.records.now in
    let config = c.args.config.now in
    let stored = c.args.stored.now in
    let none = sym c.get_widths.ensures ∙ ap (option_map (λ s. s.now)) c.in-None.is in
    let no_heights = sym c.get_heights.ensures ∙ ap (option_map (λ s. s.now)) c.in-None-get_heights.is in (
      record {
        columns = sizes_estimated (widths_of stored) (estimated_widths cells config) (columns cells) (widths_length cells config) none;
        rows = sizes_estimated (heights_of stored) (estimated_heights cells config) (length cells) (heights_length cells config) no_heights;
      },
      held_estimated cells config stored none,
    )
