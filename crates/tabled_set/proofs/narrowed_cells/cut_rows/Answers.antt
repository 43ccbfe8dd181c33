use Rattle.tabled_set.proofs.Names.{SpannedConfig, [], false, subst, sym, true, ◌∙◌, ◌≡◌}
use Rattle.std.specs.Option.{is_some}
use Rattle.tabled_entity.specs.Changes.{shared}
use Rattle.tabled_set.specs.CellChanges.{if_wider, truncating}
use Rattle.tabled_set.proofs.NarrowedCells.{rows-cut, shrunk-unpadded}
use Rattle.tabled_set.proofs.NarrowingTables.{are-shrunk, at-none, at-some, early-found, if-err, must-narrow, narrows-fitting, narrows-shrunk}
use Rattle.tabled_set.proofs.narrowed_cells.cut_rows.Goals as goal

pub returns-in_err-found-clause-err : goal.returns-in_err-found-clause-err
returns-in_err-found-clause-err g c = if-err _ c.from_residual.result _ c.from_residual.ensures.1 c.in_err-found.ensures.err

pub returns-in_default-clause-ok : goal.returns-in_default-clause-ok
returns-in_default-clause-ok g c =
    let by = c.args.option in
    let cells = c.args.rows.now in
    let config = c.args.config.now in
    narrows-fitting g.P.Peaker.shrinks by.priority (if_wider (truncating [] by.transform.limit false)) (g.W.Measurement.measures by.size cells config)
    cells config c.args.sizes.now c.wanted_widths.new.sizes (at-none _ _ c.in_default.is c.in_ok-found.ensures.none)

pub returns-in_err-cut-clause-err : goal.returns-in_err-cut-clause-err
returns-in_err-cut-clause-err g c =
    let found = c.in-Some.found in
    if-err _ c.from_residual-in_err-cut.result _ c.from_residual-in_err-cut.ensures.1
    (early-found _ _ _ _ _ _ _ _ _ (at-some _ _ found c.in-Some.is c.in_ok-found.ensures.some))

pub returns-clause-ok : goal.returns-clause-ok
returns-clause-ok g c =
    let found = c.in-Some.found in
    let rows = c.args.rows.now in
    let h = at-some _ _ found c.in-Some.is c.in_ok-found.ensures.some in
    let own = at-some _ _ found c.in-Some.is c.in_ok-found.ensures.settings in
    let padded : is_some (shared found.config.now.padding) ≡ true =
    subst (λ (d : SpannedConfig). is_some (shared d.padding) ≡ true) (sym own) c.requires in
    let shrunk = shrunk-unpadded _ _ _ _ _ _ c.clear_height.new.self found padded
    (are-shrunk _ _ _ _ _ _ _ c.clear_height.new.self found h (c.clear_height.ensures.widths ∙ c.set_widths.ensures.widths) c.clear_height.ensures.heights) in
    let cut = rows-cut found.content.items c.args.option.transform.limit rows c.are_texts.ensures.utf8 in
    rw c.in_ok-cut.ensures.ok (narrows-shrunk _ _ _ _ _ _ _ _ _ _ shrunk cut)

pub returns-clause-wider : goal.returns-clause-wider
returns-clause-wider g c = must-narrow _ _ _ _ _ _ _ _ (at-some _ _ c.in-Some.found c.in-Some.is c.in_ok-found.ensures.some)
