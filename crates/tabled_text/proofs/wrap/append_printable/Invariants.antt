use Rattle.tabled_text.proofs.Names.{Utf8, length, lines_of, max, shadow, text_columns, true, written_line, ◌+◌, ◌≡◌, ◌≤◌}
use Rattle.tabled_text.proofs.Pieces.{is_printable}
use Rattle.tabled_text.proofs.wrap.append_printable.Given as goal

abbrev pub invariant-lines : goal.invariant-lines
invariant-lines g l = record {
  adds : (t : _) → g.S.Sink.adds l.out (written_line l.n l.words l.rest) t
      → g.S.Sink.adds l.fn.out (written_line l.n l.words l.line) t;
  columns : max l.widest (text_columns (written_line l.n l.words l.rest)) ≡ text_columns (written_line l.n l.words l.line);
  counted : l.count + length (lines_of (written_line l.n l.words l.rest)) ≡ length (lines_of (written_line l.n l.words l.line)) + 1;
  few : l.count + length l.rest ≤ length l.line + 1;
  printable : is_printable l.rest ≡ true;
  utf8 : shadow (Utf8 l.rest);
}

abbrev pub decreases-lines : goal.decreases-lines
decreases-lines g l = length l.rest
