use Rattle.tabled_set.proofs.Names.{◌∙◌}
use Rattle.tabled_set.specs.CellChanges.{if_taken}
use Rattle.tabled_set.proofs.NarrowingTables.{are-shrunk, at-none, at-some, early-found, if-err, must-narrow, narrows-fitting, narrows-shrunk}
use Rattle.tabled_set.proofs.narrowed_cells.narrowed_records.Goals as goal

pub returns-in_err-found-clause-err : goal.returns-in_err-found-clause-err
returns-in_err-found-clause-err g c = if-err _ c.from_residual.result _ c.from_residual.ensures.1 c.in_err-found.ensures.err

pub returns-in_default-clause-ok : goal.returns-in_default-clause-ok
returns-in_default-clause-ok g c =
    let by = c.args.option in
    let cells = g.R.ExactRecords.cells c.args.records.now in
    let config = c.args.config.now in
    narrows-fitting g.P.Peaker.shrinks by.priority (if_taken c.args.cell_filter (g.T.TextTransform.makes by.transform)) (g.W.Measurement.measures by.size cells config)
    cells config c.args.sizes.now c.wanted_widths.new.sizes (at-none _ _ c.in_default.is c.in_ok-found.ensures.none)

pub returns-in_err-changed-clause-err : goal.returns-in_err-changed-clause-err
returns-in_err-changed-clause-err g c =
    let found = c.in-Some.found in
    if-err _ c.from_residual-in_err-changed.result _ c.from_residual-in_err-changed.ensures.1
    (early-found _ _ _ _ _ _ _ _ _ (at-some _ _ found c.in-Some.is c.in_ok-found.ensures.some))

pub returns-clause-ok : goal.returns-clause-ok
returns-clause-ok g c =
    let found = c.in-Some.found in
    let h = at-some _ _ found c.in-Some.is c.in_ok-found.ensures.some in
    narrows-shrunk _ _ _ _ _ _ _ _ _ _
    (are-shrunk _ _ _ _ _ _ _ c.clear_height.new.self found h (c.clear_height.ensures.widths ∙ c.set_widths.ensures.widths) c.clear_height.ensures.heights)
    c.in_ok-changed.ensures.ok

pub returns-clause-wider : goal.returns-clause-wider
returns-clause-wider g c = must-narrow _ _ _ _ _ _ _ _ (at-some _ _ c.in-Some.found c.in-Some.is c.in_ok-found.ensures.some)
