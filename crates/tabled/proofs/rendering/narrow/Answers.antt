use Rattle.tabled.proofs.Names.{AreCleared, Buffered, Cut, IsReadyOf, Memory, None, Plan, Range, Row, Sheet, Shortened, Some, TableError}
use Rattle.tabled.proofs.Names.{Wrapped, [], ap, arith, effective, effective_estimated, estimated, false, measured, refl, rules, subst, sym}
use Rattle.tabled.proofs.Names.{⊎_elim, ◌∙◌, ◌≡◌, ◌⊎◌}
use Rattle.std.proofs.lemmas.Grind.{common_steps}
use Rattle.tabled_set.specs.NarrowedCells.{cells_of_or}
use Rattle.tabled.proofs.FittedTables.{passes, truncated, wrapped}
use Rattle.tabled.proofs.RenderedTables.{buffered_made, range_only}
use Rattle.tabled.proofs.rendering.narrow.Goals as goal

-- an error of the range
out_of_range : (Q R : Type 0) (e : TableError) → (e ≡ Memory) ⊎ ((e ≡ Range) × R) → (R → Q) → e ≡ Range → Q
out_of_range Q R e cause so r = ⊎_elim (λ m. let bad : ⊥ = cc in absurd bad) (λ h. so h.1) cause

pub returns-in_err-wrapped-in-Wrapped-clause-range : goal.returns-in_err-wrapped-in-Wrapped-clause-range
returns-in_err-wrapped-in-Wrapped-clause-range c =
    range_only _ _ c.from_residual.ensures.1
    (out_of_range _ _ _ c.in_err-wrapped-in-Wrapped.ensures.only
    (λ over. (over.0, passes _ _ c.args.config.now c.args.sizes.now c.requires.no_widths c.requires.no_heights over)))

pub returns-in_err-truncated-in-Shortened-clause-range : goal.returns-in_err-truncated-in-Shortened-clause-range
returns-in_err-truncated-in-Shortened-clause-range c =
    range_only _ _ c.from_residual-in_err-truncated-in-Shortened.ensures.1
    (out_of_range _ _ _ c.in_err-truncated-in-Shortened.ensures.only
    (λ over. (over.0, passes _ _ c.args.config.now c.args.sizes.now c.requires.no_widths c.requires.no_heights over)))

pub returns-in_ok-wrapped-in-Wrapped-clause-made : goal.returns-in_ok-wrapped-in-Wrapped-clause-made
returns-in_ok-wrapped-in-Wrapped-clause-made c =
    let cells = c.args.rows.now in
    let after = cells_of_or c.in_ok-wrapped-in-Wrapped.wrapped cells in
    let none = c.args.sizes.now in
    let left = c.narrowed_rows.new.dims in
    let last = c.clear_height.new.self in
    let w = c.priority-wrap.result in
    let start : w.priority.round.kept ≡ 0 = first_of (search rules, grind (arith, common_steps)) in
    let plan : Wrapped w.size w.transform.keep_words w.priority.order ≡ Wrapped c.in-Wrapped.target c.in-Wrapped.words c.in-Wrapped.order =
    first_of (search rules, grind (arith, common_steps)) in
    let config = c.args.config.now in
    let cleared : AreCleared (Some (Row 0)) left last = record { widths = c.clear_height.ensures.widths; heights = c.clear_height.ensures.heights } in
    let made = wrapped w.priority start w.size cells after config none left last c.requires.no_widths c.requires.no_heights
    c.requires.rectangular c.requires.texts w.transform.keep_words c.in_ok-wrapped-in-Wrapped.ensures.ok cleared (c.in_ok-wrapped-in-Wrapped.ensures.promised last cleared) in
    subst (λ (p : Plan). IsReadyOf p (estimated cells config) (effective after config last)) (plan ∙ sym (ap measured c.in-Wrapped.is)) made

pub returns-in_ok-truncated-in-Shortened-clause-made : goal.returns-in_ok-truncated-in-Shortened-clause-made
returns-in_ok-truncated-in-Shortened-clause-made c =
    let cells = c.args.rows.now in
    let after = cells_of_or c.in_ok-truncated-in-Shortened.truncated cells in
    let none = c.args.sizes.now in
    let last = c.narrowed.new.dims in
    let w = c.priority-truncate.result in
    let start : w.priority.round.kept ≡ 0 = first_of (search rules, grind (arith, common_steps)) in
    let suffix : w.transform.suffix.now ≡ [] = first_of (search rules, grind (arith, common_steps)) in
    let limit : w.transform.limit ≡ Cut = first_of (search rules, grind (arith, common_steps)) in
    let multiline : w.transform.multiline ≡ false = first_of (search rules, grind (arith, common_steps)) in
    let plan : Shortened w.size w.priority.order ≡ Shortened c.in-Shortened.target c.in-Shortened.order =
    first_of (search rules, grind (arith, common_steps)) in
    let config = c.args.config.now in
    let cleared : AreCleared None last last = record { widths = refl; heights = refl } in
    let narrows = rw (suffix, limit, multiline) at c.in_ok-truncated-in-Shortened.ensures.ok in
    let promise = rw (suffix, limit, multiline) at (c.in_ok-truncated-in-Shortened.ensures.promised last cleared) in
    let made = truncated w.priority start w.size cells after config none last last c.requires.no_widths c.requires.no_heights
    c.requires.rectangular c.requires.texts narrows cleared promise in
    subst (λ (p : Plan). IsReadyOf p (estimated cells config) (effective after config last)) (plan ∙ sym (ap measured c.in-Shortened.is)) made

pub returns-in-Buffered-clause-made : goal.returns-in-Buffered-clause-made
returns-in-Buffered-clause-made c =
    let cells = c.args.rows.now in
    let config = c.args.config.now in
    let none = c.args.sizes.now in
    let plan : measured c.args.plan ≡ Buffered = ⊎_elim (λ e. ap measured e) (λ e. ap measured e) c.in-Buffered.is in
    let same = effective_estimated cells config none c.requires.no_widths c.requires.no_heights in
    subst (λ (p : Plan). IsReadyOf p (estimated cells config) (effective cells config none)) (sym plan)
    (subst (λ (t : Sheet). IsReadyOf Buffered (estimated cells config) t) (sym same) (buffered_made cells config c.requires.rectangular c.requires.texts))
