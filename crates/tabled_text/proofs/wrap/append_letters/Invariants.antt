use Rattle.tabled_text.proofs.Names.{Utf8, false, is_letter_byte, length, lines_of, list_all, max, shadow, text_columns, true, written_line}
use Rattle.tabled_text.proofs.Names.{◌+◌, ◌≡◌, ◌≤◌}
use Rattle.tabled_text.proofs.wrap.append_letters.Given as goal

abbrev pub invariant-lines : goal.invariant-lines
invariant-lines g l = record {
  adds : (t : _) → g.S.Sink.adds l.out (written_line l.n false l.rest) t
      → g.S.Sink.adds l.fn.out (written_line l.n false l.line) t;
  columns : max l.widest (text_columns (written_line l.n false l.rest)) ≡ text_columns (written_line l.n false l.line);
  counted : l.count + length (lines_of (written_line l.n false l.rest)) ≡ length (lines_of (written_line l.n false l.line)) + 1;
  few : l.count + length l.rest ≤ length l.line + 1;
  letters : list_all is_letter_byte l.rest ≡ true;
  utf8 : shadow (Utf8 l.rest);
}

abbrev pub decreases-lines : goal.decreases-lines
decreases-lines g l = length l.rest
