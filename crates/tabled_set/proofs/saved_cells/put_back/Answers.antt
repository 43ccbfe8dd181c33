use Rattle.tabled_set.proofs.PuttingBack.{AreChanged-set, copies-front, copies-last, is_saved-append, put-text}
use Rattle.tabled_set.proofs.saved_cells.put_back.Goals as goal

pub cells-preserved : goal.cells-preserved
cells-preserved c =
    λ before copies.
    let front = c.cells.yielded in
    let cell = c.in-Some.cell in
    AreChanged-set (c.cells.invariant before (copies-front before front cell copies))
    (put-text before cell (copies-last before front cell copies) c.put_cell.ensures)
    (is_saved-append front cell)
