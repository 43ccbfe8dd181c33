use Rattle.tabled_set.proofs.Names.{ℕ, ◌&&◌, nat_lt, ◌≡◌, covers, columns}
use Rattle.tabled_set.specs.PutBack.{AreCopies, is_part, is_saved}
use Rattle.tabled_set.proofs.saved_cells.save_cells.Given as goal

abbrev pub invariant-rows : goal.invariant-rows
invariant-rows l =
    record {
      copies : AreCopies l.records l.saved.items;
      saved : (r k : ℕ) → is_saved l.saved.items r k ≡ (is_part l.fn.entity l.records r k && nat_lt r l.row);
    }
