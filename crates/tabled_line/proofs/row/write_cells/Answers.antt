use Rattle.tabled_line.proofs.Names.{Writes, arith, cell_piece, refl, rules, subst, sym, ◌<◌, ◌∙◌, ◌≡◌}
use Rattle.tabled_line.specs.Row.{row_cells}
use Rattle.tabled_line.proofs.Each.{each-first, each-more, each-rest}
use Rattle.tabled_line.proofs.Sending.{further, sends-along, stopped}
use Rattle.tabled_line.proofs.row.write_cells.Goals as goal

pub write_spaced_row-requires : goal.write_spaced_row-requires
write_spaced_row-requires g c = λ κs. ((refl, tt), (c.only.ensures.line _ (sym c.requires.height_is ∙ c.if-line-eq1.true), search rules))

pub returns-then-line-eq1 : goal.returns-then-line-eq1
returns-then-line-eq1 g c =
    let first : c.only.result.index ≡ c.args.line.now.index =
    omega (arith, c.only.ensures.first, c.requires.index_in, c.if-line-eq1.true) in
    subst (λ i. Writes (g.S.TextSink.sent c.args.sink.now) c.write_spaced_row.result (g.S.TextSink.sent c.write_spaced_row.new.sink)
    (row_cells (g.R.Row.sheet c.args.row.now) i)) first c.write_spaced_row.ensures

pub returns-in_err-write_cell : goal.returns-in_err-write_cell
returns-in_err-write_cell g c =
    let row = g.R.Row.sheet c.args.row.now in
    let drawn = c.count_drawn-column-end.ensures.within in
    let within : c.cells.column < row.columns.count = omega (arith, drawn, c.cells-test.true) in
    stopped _ _ _ c.cells.invariant c.in_err-write_cell.ensures c.from_residual.ensures.1
    (each-rest (cell_piece row c.args.line.now.index) _ _ within)

pub cells-preserved : goal.cells-preserved
cells-preserved g c =
    further c.cells.invariant c.in_ok-write_cell.ensures (each-more (cell_piece (g.R.Row.sheet c.args.row.now) c.args.line.now.index) _)

pub returns : goal.returns
returns g c =
    let row = g.R.Row.sheet c.args.row.now in
    let index = c.args.line.now.index in
    let drawn = c.count_drawn-column-end.ensures in
    let few = drawn.within in
    let reached = c.cells.auto.column-end in
    sends-along _ _ _ _ c.cells.invariant
    (sym (each-first (cell_piece row index) c.cells.column row.columns.count (omega (arith, few, reached))
    (λ k l m. drawn.rest k index (omega (arith, l)) m)))
