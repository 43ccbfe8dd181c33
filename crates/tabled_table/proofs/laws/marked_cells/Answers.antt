use Rattle.tabled_table.proofs.Stream.Marked.{cut_cell-exists, cut_cell-kept, exact-whole, fits-cut_cell, longest_marked}
use Rattle.tabled_table.proofs.laws.marked_cells.Goals as goal

pub returns : goal.returns
returns g = record {
  exists = cut_cell-exists;
  fits = fits-cut_cell;
  kept = cut_cell-kept;
  whole = exact-whole;
  longest = longest_marked;
}
