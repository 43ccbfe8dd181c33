use Rattle.tabled_grid.proofs.Names.{arith, columns, rules, ◌<◌}
use Rattle.tabled_line.proofs.PlacementFacts.{cell-known, placements-count}
use Rattle.tabled_grid.proofs.checks.narrow_by_placements.Goals as goal

pub fits_placement-requires-clause-column_in : goal.fits_placement-requires-clause-column_in
fits_placement-requires-clause-column_in g c = omega (arith, placements-count c.requires.placements, c.columns-test.true)

pub fits_placement-requires-clause-placement : goal.fits_placement-requires-clause-placement
fits_placement-requires-clause-placement g c =
    let within : c.columns.column < columns c.args.grid.now.cells =
    omega (arith, placements-count c.requires.placements, c.columns-test.true) in
    cell-known c.requires.placements within

pub fits_placement-requires-clause-placeable : goal.fits_placement-requires-clause-placeable
fits_placement-requires-clause-placeable g c = c.requires.placements.placeable c.columns.column (omega (arith, placements-count c.requires.placements, c.columns-test.true))

pub returns : goal.returns
returns g c = λ k within. c.columns.invariant k (omega (arith, placements-count c.requires.placements, within, c.columns-test.false))

pub returns-then-not-fits_placement : goal.returns-then-not-fits_placement
returns-then-not-fits_placement g c =
    record {
      column_in = omega (arith, placements-count c.requires.placements, c.columns-test.true);
      narrow = search rules;
      before = c.columns.invariant;
    }
