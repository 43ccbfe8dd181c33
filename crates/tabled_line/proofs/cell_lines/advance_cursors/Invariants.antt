use Rattle.tabled_line.proofs.Names.{IsAhead, IsAt, List, cursor_of, length, ℕ, ◌<◌, ◌≡◌, ◌≤◌}
use Rattle.tabled_line.proofs.cell_lines.advance_cursors.Given as goal

abbrev pub invariant-columns : goal.invariant-columns
invariant-columns l =
    record {
      same : length l.cursors ≡ length l.initial.cursors;
      moved : (k : ℕ) → k < l.column → (text : List ℕ) (above index : ℕ)
          → IsAhead text above index (cursor_of l.initial.cursors k) → IsAt text above index (cursor_of l.cursors k);
      left : (k : ℕ) → l.column ≤ k → cursor_of l.cursors k ≡ cursor_of l.initial.cursors k;
    }
