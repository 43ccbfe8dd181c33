use Rattle.tabled_line.proofs.Names.{IsCursor, cursor_of, length, ℕ, ◌<◌, ◌≡◌}
use Rattle.tabled_line.proofs.cell_lines.begin_cursors.Given as goal

abbrev pub invariant-columns : goal.invariant-columns
invariant-columns g l =
    record {
      same : length l.cursors ≡ length l.initial.cursors;
      begun : (k : ℕ) → k < l.column → IsCursor (g.R.Row.sheet l.row) 0 k (cursor_of l.cursors k);
    }
