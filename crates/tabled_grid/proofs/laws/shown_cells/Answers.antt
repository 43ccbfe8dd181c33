use Rattle.tabled_grid.proofs.ShownCells.{cell_shown, estimated_rows, whole_cell_shown}
use Rattle.tabled_grid.proofs.laws.shown_cells.Goals as goal

pub returns-clause-shown : goal.returns-clause-shown
returns-clause-shown c = cell_shown

pub returns-clause-whole : goal.returns-clause-whole
returns-clause-whole c = whole_cell_shown

pub returns-clause-estimated : goal.returns-clause-estimated
returns-clause-estimated c = estimated_rows
