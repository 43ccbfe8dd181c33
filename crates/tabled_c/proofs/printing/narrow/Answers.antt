use Rattle.tabled.proofs.Names.{AreCleared, Cut, IsReadyOf, None, Row, Sheet, Shrinks, Some, TruncatesAsPromised, WrapsAsPromised}
use Rattle.tabled.proofs.Names.{[], ap, arith, effective, effective_estimated, estimated, false, measured, refl, rules, subst, sym, ⊎_elim, ◌∙◌, ◌≡◌}
use Rattle.tabled.specs.declared.arguments.Plan.{Plan}
use Rattle.tabled.specs.declared.arguments.Plan.TheVariants.{Buffered, Shortened, Wrapped}
use Rattle.std.proofs.lemmas.Grind.{common_steps}
use Rattle.tabled_config.specs.declared.colored.ColoredConfig.{ColoredConfig}
use Rattle.tabled.proofs.FittedTables.{passes, truncated, wrapped}
use Rattle.tabled.proofs.RenderedTables.{buffered_made, range_only}
use Rattle.tabled_c.proofs.printing.narrow.Goals as goal

pub returns-in_err-change-in-Wrapped-clause-range : goal.returns-in_err-change-in-Wrapped-clause-range
returns-in_err-change-in-Wrapped-clause-range c =
    range_only _ _ c.from_residual.ensures.1
    (λ r.
    let over = c.in_err-change-in-Wrapped.ensures.range r in
    (over.0, passes _ _ c.args.settings.now.config c.args.sizes.now c.requires.no_widths c.requires.no_heights over))

pub returns-in_err-change-in-Shortened-clause-range : goal.returns-in_err-change-in-Shortened-clause-range
returns-in_err-change-in-Shortened-clause-range c =
    range_only _ _ c.from_residual-in_err-change-in-Shortened.ensures.1
    (λ r.
    let over = c.in_err-change-in-Shortened.ensures.range r in
    (over.0, passes _ _ c.args.settings.now.config c.args.sizes.now c.requires.no_widths c.requires.no_heights over))

pub returns-in_ok-change-in-Wrapped-clause-made : goal.returns-in_ok-change-in-Wrapped-clause-made
returns-in_ok-change-in-Wrapped-clause-made c =
    let cells = c.args.rows.now in
    let after = c.change.new.records in
    let config = c.args.settings.now.config in
    let none = c.args.sizes.now in
    let left = c.change.new.dims in
    let last = c.clear_height.new.self in
    let w = c.priority-wrap.result in
    let start : w.priority.round.kept ≡ 0 = first_of (search rules, grind (arith, common_steps)) in
    let plan : Wrapped w.size w.transform.keep_words w.priority.order ≡ Wrapped c.in-Wrapped.target c.in-Wrapped.words c.in-Wrapped.order =
    first_of (search rules, grind (arith, common_steps)) in
    let cleared : AreCleared (Some (Row 0)) left last = record { widths = c.clear_height.ensures.widths; heights = c.clear_height.ensures.heights } in
    let done = c.in_ok-change-in-Wrapped.ensures in
    let promise = subst
    (λ (k : ColoredConfig). WrapsAsPromised Shrinks w.priority w.transform.keep_words w.size (effective cells config none) (effective after k.config last))
    done.ok.1 (done.promised last cleared) in
    let made = wrapped w.priority start w.size cells after config none left last c.requires.no_widths c.requires.no_heights
    c.requires.rectangular c.requires.texts w.transform.keep_words done.ok.0 cleared promise in
    subst (λ (k : ColoredConfig). IsReadyOf (measured c.args.plan) (estimated cells config) (effective after k.config last)) (sym done.ok.1)
    (subst (λ (p : Plan). IsReadyOf p (estimated cells config) (effective after config last)) (plan ∙ sym (ap measured c.in-Wrapped.is)) made)

pub returns-in_ok-change-in-Shortened-clause-made : goal.returns-in_ok-change-in-Shortened-clause-made
returns-in_ok-change-in-Shortened-clause-made c =
    let cells = c.args.rows.now in
    let after = c.change-in-Shortened.new.records in
    let config = c.args.settings.now.config in
    let none = c.args.sizes.now in
    let last = c.change-in-Shortened.new.dims in
    let w = c.priority-truncate.result in
    let start : w.priority.round.kept ≡ 0 = first_of (search rules, grind (arith, common_steps)) in
    let suffix : w.transform.suffix.now ≡ [] = first_of (search rules, grind (arith, common_steps)) in
    let limit : w.transform.limit ≡ Cut = first_of (search rules, grind (arith, common_steps)) in
    let multiline : w.transform.multiline ≡ false = first_of (search rules, grind (arith, common_steps)) in
    let plan : Shortened w.size w.priority.order ≡ Shortened c.in-Shortened.target c.in-Shortened.order =
    first_of (search rules, grind (arith, common_steps)) in
    let cleared : AreCleared None last last = record { widths = refl; heights = refl } in
    let done = c.in_ok-change-in-Shortened.ensures in
    let narrows = rw (suffix, limit, multiline) at done.ok.0 in
    let promise = rw (suffix, limit, multiline) at (done.promised last cleared) in
    let kept = subst (λ (k : ColoredConfig). TruncatesAsPromised Shrinks w.priority [] Cut false w.size (effective cells config none) (effective after k.config last))
    done.ok.1 promise in
    let made = truncated w.priority start w.size cells after config none last last c.requires.no_widths c.requires.no_heights
    c.requires.rectangular c.requires.texts narrows cleared kept in
    subst (λ (k : ColoredConfig). IsReadyOf (measured c.args.plan) (estimated cells config) (effective after k.config last)) (sym done.ok.1)
    (subst (λ (p : Plan). IsReadyOf p (estimated cells config) (effective after config last)) (plan ∙ sym (ap measured c.in-Shortened.is)) made)

pub returns-in-Buffered-clause-made : goal.returns-in-Buffered-clause-made
returns-in-Buffered-clause-made c =
    let cells = c.args.rows.now in
    let config = c.args.settings.now.config in
    let none = c.args.sizes.now in
    let plan : measured c.args.plan ≡ Buffered = ⊎_elim (λ e. ap measured e) (λ e. ap measured e) c.in-Buffered.is in
    let same = effective_estimated cells config none c.requires.no_widths c.requires.no_heights in
    subst (λ (p : Plan). IsReadyOf p (estimated cells config) (effective cells config none)) (sym plan)
    (subst (λ (t : Sheet). IsReadyOf Buffered (estimated cells config) t) (sym same) (buffered_made cells config c.requires.rectangular c.requires.texts))
