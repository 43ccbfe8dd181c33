use Rattle.std.proofs.Common.{inl, arith, rules, subst, sym, unwrap_or, ◌∙◌, ◌≡◌, ◌≤◌}
use Rattle.std.proofs.lemmas.Grind.{common_steps}
use Rattle.tabled_set.specs.CellChanges.{word_wrapping}
use Rattle.tabled_set.specs.Narrowed.{Narrows}
use Rattle.tabled_set.specs.Priorities.{shrinking_to}
use Rattle.tabled_set.specs.SizedTable.{sized_table}
use Rattle.tabled_priority.specs.Permitted.{spare_total}
use Rattle.tabled_size.specs.Effective.{effective}
use Rattle.tabled_size.specs.Estimates.{estimated_widths}
use Rattle.tabled_size.specs.Sheet.{estimated}
use Rattle.tabview_cells.specs.Fitted.{GivesToFloors}
use Rattle.tabview_print.proofs.FittedTables.{fitted-cut, gives-to, narrows-fitted}
use Rattle.tabview_print.proofs.Printing.{if-err-so, if-ok-so}
use Rattle.tabview_print.proofs.Ranges.{early-narrowing}
use Rattle.tabview_print.specs.Fitted.{IsFitted}
use Rattle.tabview_print.specs.Floors.{floors_of}
use Rattle.tabview_print.specs.PrintedTables.{StopsBeforePrinting}
use Rattle.tabview_print.specs.declared.layout.Narrowing.{Narrowing}
use Rattle.tabview_print.proofs.fitting.narrowed.Goals as goal

pub returns-in-Wrap-clause-ok : goal.returns-in-Wrap-clause-ok
returns-in-Wrap-clause-ok c =
    let fit = c.args.fit.now in
    let cells = c.args.records.now in
    let config = c.args.config.now in
    let floors = c.args.floors.now in
    let t = estimated cells config in
    let before = c.args.sizes.now in
    let after = c.narrowed.new.dims in
    let o = c.priority-option.result in
    let size : o.size ≡ fit.width = first_of (search rules, grind (arith, common_steps)) in
    let own : o.priority.floors.now ≡ floors.widths.items = first_of (search rules, grind (arith, common_steps)) in
    let known = own ∙ c.requires.floors in
    let room = subst (λ k. k ≤ spare_total (estimated_widths cells config) (floors_of fit.columns.now fit.has_header t)) c.requires.excess
    (subst (λ fs. floors.excess ≤ spare_total (estimated_widths cells config) fs) c.requires.floors c.requires.enough) in
    if-ok-so _ _ c.narrowed.result
    (λ changed narrows.
    subst (λ (by : Narrowing). IsFitted fit.columns.now fit.has_header by fit.width t (effective (unwrap_or changed cells) config after)) (sym c.in-Wrap.is)
    (narrows-fitted gives-to o.priority fit.columns.now fit.has_header fit.width cells config before (unwrap_or changed cells) after
    (λ old mins by new u h. subst (λ fs. GivesToFloors fs old mins by new) known h.0) c.requires.wider room c.requires.widths c.requires.heights
    (subst (λ k. Narrows (shrinking_to gives-to o.priority k) word_wrapping (sized_table cells config before) (unwrap_or changed cells) after)
    size narrows)))
    c.narrowed.ensures.ok

pub returns-in-Wrap-clause-only : goal.returns-in-Wrap-clause-only
returns-in-Wrap-clause-only c =
    let fit = c.args.fit.now in
    let cells = c.args.records.now in
    let config = c.args.config.now in
    let before = c.args.sizes.now in
    let o = c.priority-option.result in
    let size : o.size ≡ fit.width = first_of (search rules, grind (arith, common_steps)) in
    if-err-so _ (StopsBeforePrinting (estimated cells config)) c.narrowed.result
    (λ e cause. early-narrowing o.size cells config before e c.requires.widths c.requires.heights cause)
    c.narrowed.ensures.only

pub returns-in-Cut-clause-ok : goal.returns-in-Cut-clause-ok
returns-in-Cut-clause-ok c =
    let fit = c.args.fit.now in
    let cells = c.args.records.now in
    let config = c.args.config.now in
    let floors = c.args.floors.now in
    let after = c.cut.new.sizes in
    if-ok-so _ _ c.cut.result
    (λ changed made.
    subst (λ (by : Narrowing). IsFitted fit.columns.now fit.has_header by fit.width (estimated cells config) (effective (unwrap_or changed cells) config after)) (sym c.in-Cut.is)
    (fitted-cut fit.columns.now fit.has_header fit.width cells config c.requires.wider floors.widths.items floors.excess c.requires.floors c.requires.excess c.requires.enough
    (unwrap_or changed cells) after made))
    c.cut.ensures.ok

pub returns-in-Cut-clause-only : goal.returns-in-Cut-clause-only
returns-in-Cut-clause-only c =
    if-err-so _ (StopsBeforePrinting (estimated c.args.records.now c.args.config.now)) c.cut.result (λ e m. inl m) c.cut.ensures.only
