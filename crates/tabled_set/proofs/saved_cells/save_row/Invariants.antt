use Rattle.tabled_set.proofs.Names.{nat_lt, ℕ, ◌&&◌, ◌==◌, ◌||◌, ◌≡◌}
use Rattle.tabled_set.specs.CellChanges.{is_within}
use Rattle.tabled_set.specs.PutBack.{AreCopies, is_saved}
use Rattle.tabled_set.proofs.saved_cells.save_row.Given as goal

abbrev pub invariant-columns : goal.invariant-columns
invariant-columns l =
    record {
      copies : AreCopies l.records l.saved.items;
      saved : (r k : ℕ) → is_saved l.saved.items r k ≡ (is_saved l.initial.saved.items r k || (r == l.row && (is_within l.band k && nat_lt k l.column)));
    }
