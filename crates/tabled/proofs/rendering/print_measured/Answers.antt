use Rattle.tabled.proofs.Names.{IsReadyOf, Option, Some, ap, effective, estimated, is_stored, measured, not, subst, ◌∙◌}
use Rattle.tabled_set.specs.NarrowedCells.{cells_of_or}
use Rattle.tabled_set.specs.declared.narrowed_cells.NarrowedRows.{NarrowedRows}
use Rattle.tabled.proofs.RenderedTables.{prints_made}
use Rattle.tabled.proofs.rendering.print_measured.Goals as goal

pub returns-in-Some-Cut : goal.returns-in-Some-Cut
returns-in-Some-Cut g c =
    let cells = c.args.rows.now in
    let sizes = c.narrow.new.sizes in
    let config = c.args.config.now in
    let whole = estimated cells config in
    let made = subst (λ (o : Option NarrowedRows). IsReadyOf (measured c.args.plan) whole (effective (cells_of_or o cells) config sizes))
    (c.in-Some-Cut.is ∙ ap Some c.in-Some-Cut.field-0-is) c.in_ok-cells.ensures.made in
    prints_made (measured c.args.plan) whole (not (is_stored sizes)) (effective c.in-Some-Cut.cells config sizes) (g.S.TextSink.sent c.args.sink.now)
    c.print_standing.result (g.S.TextSink.sent c.print_standing.new.sink) made c.print_standing.ensures

pub returns-in-Some-Wrapped : goal.returns-in-Some-Wrapped
returns-in-Some-Wrapped g c =
    let cells = c.args.rows.now in
    let sizes = c.narrow.new.sizes in
    let config = c.args.config.now in
    let whole = estimated cells config in
    let made = subst (λ (o : Option NarrowedRows). IsReadyOf (measured c.args.plan) whole (effective (cells_of_or o cells) config sizes))
    (c.in-Some-Wrapped.is ∙ ap Some c.in-Some-Wrapped.field-0-is) c.in_ok-cells.ensures.made in
    prints_made (measured c.args.plan) whole (not (is_stored sizes)) (effective c.in-Some-Wrapped.cells config sizes) (g.S.TextSink.sent c.args.sink.now)
    c.print_standing-in-Some-Wrapped.result (g.S.TextSink.sent c.print_standing-in-Some-Wrapped.new.sink) made c.print_standing-in-Some-Wrapped.ensures

pub returns-in-Some-Made : goal.returns-in-Some-Made
returns-in-Some-Made g c =
    let cells = c.args.rows.now in
    let sizes = c.narrow.new.sizes in
    let config = c.args.config.now in
    let whole = estimated cells config in
    let made = subst (λ (o : Option NarrowedRows). IsReadyOf (measured c.args.plan) whole (effective (cells_of_or o cells) config sizes))
    (c.in-Some-Made.is ∙ ap Some c.in-Some-Made.field-0-is) c.in_ok-cells.ensures.made in
    prints_made (measured c.args.plan) whole (not (is_stored sizes)) (effective c.in-Some-Made.cells config sizes) (g.S.TextSink.sent c.args.sink.now)
    c.print_standing-in-Some-Made.result (g.S.TextSink.sent c.print_standing-in-Some-Made.new.sink) made c.print_standing-in-Some-Made.ensures

pub returns : goal.returns
returns g c =
    let cells = c.args.rows.now in
    let sizes = c.narrow.new.sizes in
    let config = c.args.config.now in
    let whole = estimated cells config in
    let made = subst (λ (o : Option NarrowedRows). IsReadyOf (measured c.args.plan) whole (effective (cells_of_or o cells) config sizes)) c.in-None.is c.in_ok-cells.ensures.made in
    prints_made (measured c.args.plan) whole (not (is_stored sizes)) (effective cells config sizes) (g.S.TextSink.sent c.args.sink.now)
    c.print_standing-in-None.result (g.S.TextSink.sent c.print_standing-in-None.new.sink) made c.print_standing-in-None.ensures
