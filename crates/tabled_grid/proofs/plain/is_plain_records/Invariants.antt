use Rattle.tabled_grid.proofs.Names.{All, IsPlain, [], slice_index_or, ℕ, ◌<◌}
use Rattle.tabled_grid.proofs.plain.is_plain_records.Given as goal

abbrev pub invariant-rows : goal.invariant-rows
invariant-rows g l = (r : ℕ) → r < l.row → All IsPlain (slice_index_or (g.R.ExactRecords.cells l.records) r [])
