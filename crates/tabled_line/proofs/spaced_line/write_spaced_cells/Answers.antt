use Rattle.tabled_line.proofs.Names.{arith, cell_piece, refl, ◌<◌}
use Rattle.tabled_line.proofs.Each.{each-first, each-more, each-rest}
use Rattle.tabled_line.proofs.Owing.{owes-finished, owes-further, owes-start, owes-stopped}
use Rattle.tabled_line.proofs.spaced_line.write_spaced_cells.Goals as goal

pub cells-init : goal.cells-init
cells-init g c = owes-start _ refl

pub returns-in_err-behind : goal.returns-in_err-behind
returns-in_err-behind g c =
    let row = g.R.Row.sheet c.args.row.now in
    let drawn = c.count_drawn-column-end.ensures.within in
    let within : c.cells.column < row.columns.count = omega (arith, drawn, c.cells-test.true) in
    owes-stopped _ _ _ _ c.cells.invariant c.in_err-behind.ensures c.from_residual.ensures.1
    (each-rest (cell_piece row c.args.line.now.index) _ _ within)

pub cells-preserved : goal.cells-preserved
cells-preserved g c =
    owes-further _ c.cells.invariant c.in_ok-behind.ensures (each-more (cell_piece (g.R.Row.sheet c.args.row.now) c.args.line.now.index) _)

pub returns : goal.returns
returns g c =
    let row = g.R.Row.sheet c.args.row.now in
    let drawn = c.count_drawn-column-end.ensures in
    let few = drawn.within in
    let reached = c.cells.auto.column-end in
    owes-finished _ _ c.cells.invariant c.write_spaces.ensures
    (each-first (cell_piece row c.args.line.now.index) c.cells.column row.columns.count (omega (arith, few, reached))
    (λ k l m. drawn.rest k c.args.line.now.index (omega (arith, l)) m))
