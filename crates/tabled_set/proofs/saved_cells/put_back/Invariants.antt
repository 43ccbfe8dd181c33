use Rattle.tabled_set.proofs.Names.{AreChanged, List, cell_at, ℕ, ◌≡◌}
use Rattle.tabled_set.specs.PutBack.{AreCopies, is_saved}
use Rattle.tabled_set.proofs.saved_cells.put_back.Given as goal

abbrev pub invariant-cells : goal.invariant-cells
invariant-cells l =
    (before : List (List (List ℕ))) → AreCopies before l.yielded
    → AreChanged (is_saved l.yielded) (λ row column old new. new ≡ cell_at before row column) l.fn.records l.records
