use Rattle.tabled_size.proofs.Names.{List, Option, Some, ap, effective_sizes, estimated_heights, filled_height, length, option_map, refl}
use Rattle.tabled_size.proofs.Names.{sym, ℕ, ◌∙◌}
use Rattle.tabled_base.specs.declared.error.TableError.TheVariants.{ShortHeights}
use Rattle.tabled_size.specs.Stored.{heights_of}
use Rattle.tabled_size.proofs.Passing.{too_high_passes}
use Rattle.tabled_size.proofs.Totalling.{reached_estimates, reached_stands, total_moved, total_refused, heights_length}
use Rattle.tabled_size.proofs.total.total_height.Goals as goal

pub returns-in-Some-clause-filled : goal.returns-in-Some-clause-filled
returns-in-Some-clause-filled g c =
    let cells = g.R.ExactRecords.cells c.args.records.now in
    let stored = sym c.get_heights.ensures ∙ ap (option_map (λ s. s.now)) c.in-Some.is in
    λ h. total_moved ShortHeights (filled_height c.args.config.now) _ (length cells) _ _ _ c.count_rows-rows.ensures
    (reached_stands (heights_of c.args.stored.now) c.in-Some.field-0.now (estimated_heights cells c.args.config.now)
    (length cells) c.count_rows-rows.result stored c.count_rows-rows.ensures)
    c.reached_height.ensures.answers

pub returns-in_err-estimate_heights-in-None-clause-filled : goal.returns-in_err-estimate_heights-in-None-clause-filled
returns-in_err-estimate_heights-in-None-clause-filled g c =
    let cells = g.R.ExactRecords.cells c.args.records.now in
    let sizes : Option (List ℕ) → List ℕ = λ o. effective_sizes o (estimated_heights cells c.args.config.now) (length cells) in
    let stored = ap (option_map (λ s. s.now)) (sym c.in-None.is) ∙ c.get_heights.ensures in
    λ h. total_moved ShortHeights (filled_height c.args.config.now) (length cells) (length cells) _ _ _ refl (ap sizes stored)
    (total_refused ShortHeights (filled_height c.args.config.now) _ (length cells) _ _ _ (heights_length cells c.args.config.now)
    (too_high_passes cells c.args.config.now) c.in_err-estimate_heights-in-None.ensures.err c.from_residual.ensures.1)

pub returns-in_ok-estimate_heights-in-None-clause-filled : goal.returns-in_ok-estimate_heights-in-None-clause-filled
returns-in_ok-estimate_heights-in-None-clause-filled g c =
    let cells = g.R.ExactRecords.cells c.args.records.now in
    let sizes : Option (List ℕ) → List ℕ = λ o. effective_sizes o (estimated_heights cells c.args.config.now) (length cells) in
    let stored = ap (option_map (λ s. s.now)) (sym c.in-None.is) ∙ c.get_heights.ensures in
    λ h. total_moved ShortHeights (filled_height c.args.config.now) _ (length cells) _ _ _ c.count_rows-rows.ensures
    (reached_estimates (heights_of c.set_heights.new.self) (estimated_heights cells c.args.config.now) (length cells)
    c.count_rows-rows.result (c.set_heights.ensures.heights ∙ ap Some c.in_ok-estimate_heights-in-None.ensures.ok)
    (heights_length cells c.args.config.now) c.count_rows-rows.ensures ∙ ap sizes stored)
    c.reached_height-in-None.ensures.answers
