use Rattle.tabled_set.proofs.Names.{arith, err_from_is_err_and}
use Rattle.tabled_set.proofs.ChangingCells.{AreChanged-next, IsInside-changed, inside_line, on_line-itself, on_line-next, stops-there}
use Rattle.tabled_set.proofs.walk.change_line.Goals as goal

pub change_cell-requires : goal.change_cell-requires
change_cell-requires g c =
    let at = c.cell.result in
    IsInside-changed c.places.invariant
    (inside_line c.args.order (g.R.ExactRecords.cells c.args.records.now) at.row at.column c.args.line c.places.place c.cell.ensures.line c.cell.ensures.place (omega arith) (omega arith))

pub places-preserved : goal.places-preserved
places-preserved g c =
    let at = c.cell.result in
    let order = c.args.order in
    let line = c.args.line in
    let place = c.places.place in
    AreChanged-next at.row at.column c.places.invariant c.in_ok-change_cell.ensures.ok
    (on_line-itself order at.row at.column line place c.args.band.now c.cell.ensures.line c.cell.ensures.place)
    (λ r k. on_line-next order at.row at.column line place r k c.args.band.now c.cell.ensures.line c.cell.ensures.place (omega arith) (omega arith))

pub returns-in_err-change_cell-clause-err : goal.returns-in_err-change_cell-clause-err
returns-in_err-change_cell-clause-err g c =
    let at = c.cell.result in
    let p = err_from_is_err_and c.from_residual.result c.from_residual.ensures.1 in
    rw p.1
    (stops-there c.args.order c.args.band.now c.args.line c.places.place at.row at.column c.cell.ensures.line c.cell.ensures.place (omega arith) (omega arith) (omega arith) (omega arith)
    c.places.invariant c.in_err-change_cell.ensures.err c.in_err-change_cell.ensures.needed)
