use Rattle.tabled_size.proofs.Names.{KnowsAdded, columns, map, needed_width, range_with_len, row_height, ◌≡◌}
use Rattle.tabled_size.proofs.Greatest.{greatest_below}
use Rattle.tabled_size.proofs.estimate.estimate_sizes.Given as goal

abbrev pub invariant-rows : goal.invariant-rows
invariant-rows g l =
    let cells = g.R.ExactRecords.cells l.records in
    record {
      known : KnowsAdded l.known l.config (columns cells);
      widths : l.widths.items ≡ map (λ c. greatest_below (λ r. needed_width cells l.config r c) l.row) (range_with_len 0 (columns cells));
      heights : l.heights.items ≡ map (row_height cells l.config) (range_with_len 0 l.row);
    }
