use Rattle.tabled_grid.proofs.Measuring.{additive_cells}
use Rattle.tabled_grid.proofs.OneLines.{plain_apart}
use Rattle.tabled_grid.proofs.laws.pictures.Goals as goal

pub returns-clause-plain : goal.returns-clause-plain
returns-clause-plain c = additive_cells

pub returns-clause-apart : goal.returns-clause-apart
returns-clause-apart c = plain_apart
