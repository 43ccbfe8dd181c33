use Rattle.tabled.proofs.Names.{AreChanged, IsBestOf, IsPlannedOf, Prints, Sheet, Some, Streamed, ap, cut_to, estimated, estimated_heights}
use Rattle.tabled.proofs.Names.{estimated_widths, inl, inr, is_stored, not, subst, true, unwrap_or, ⊎_elim, ◌∙◌, ◌≡◌}
use Rattle.tabled_set.proofs.ChangingCells.{columns-changed}
use Rattle.tabled.proofs.FittedTables.{sized_by}
use Rattle.tabled.proofs.RenderedTables.{prints_made, refused_early}
use Rattle.tabled.proofs.StreamedTables.{cut-changed, filled_in, not_estimated, streamed_made, widths_read}
use Rattle.tabled.proofs.rendering.print_streamed.Goals as goal

pub returns-in_err-estimate : goal.returns-in_err-estimate
returns-in_err-estimate g c =
    let cells = g.R.ExactRecords.cells c.args.rows.now in
    let config = c.args.config.now in
    let whole = estimated cells config in
    refused_early (IsPlannedOf Streamed whole) (IsBestOf Streamed whole) (λ e. ⊥) whole (g.S.TextSink.sent c.args.sink.now) c.from_residual.result _ c.from_residual.ensures.1
    (⊎_elim (λ m. inl m) (λ k. inr k.0) c.in_err-estimate.ensures.only)
    (λ r. ⊎_elim (λ m. let bad : ⊥ = cc in absurd bad) (λ k. let n = not_estimated cells config c.new-sizes.result k.1 in (n.0, inl n.1)) c.in_err-estimate.ensures.only)

pub returns : goal.returns
returns g c =
    let cells = g.R.ExactRecords.cells c.args.rows.now in
    let config = c.args.config.now in
    let sizes = c.estimate.new.self in
    let after = c.in_ok-cells.cells in
    let filled = c.in_ok-estimate.ensures.ok in
    let wide = estimated_widths cells config in
    let stored : c.unwrap_or-widths.result.now ≡ wide =
    widths_read c.get_widths.result _ c.unwrap_or-widths.result wide
    (c.get_widths.ensures ∙ filled.widths ∙ ap (λ o. Some (unwrap_or o wide)) c.new-sizes.ensures.widths) c.unwrap_or-widths.ensures in
    let changed : AreChanged (λ row column. true) (cut_to wide config) cells after =
    subst (λ w. AreChanged (λ row column. true) (cut_to w config) cells after) stored
    (cut-changed c.unwrap_or-widths.result.now config c.in_ok-cells.ensures.ok) in
    let old = g.S.TextSink.sent c.args.sink.now in
    let new = g.S.TextSink.sent c.print_standing.new.sink in
    let same = filled_in cells after config c.new-sizes.result sizes c.new-sizes.ensures.widths c.new-sizes.ensures.heights filled changed.rows (columns-changed changed) in
    prints_made Streamed (estimated cells config) (not (is_stored sizes)) (sized_by after config wide (estimated_heights cells config)) old c.print_standing.result new
    (streamed_made cells config c.requires.rectangular c.requires.texts after changed)
    (subst (λ (t : Sheet). Prints (not (is_stored sizes)) t old c.print_standing.result new) same c.print_standing.ensures)
