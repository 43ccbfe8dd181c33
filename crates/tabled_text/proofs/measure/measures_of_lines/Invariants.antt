use Rattle.tabled_text.proofs.Names.{Utf8, length, lines_of, max, shadow, text_columns, ◌*◌, ◌+◌, ◌≡◌, ◌≤◌}
use Rattle.tabled_text.specs.Runs.{EndsRun}
use Rattle.tabled_text.proofs.measure.measures_of_lines.Given as goal

abbrev pub invariant-lines : goal.invariant-lines
invariant-lines l = record {
  value : max l.widest (text_columns l.rest) ≡ text_columns l.text;
  bound : l.widest ≤ 2 * length l.text;
  short : length l.rest ≤ length l.text;
  counted : l.count + length (lines_of l.rest) ≡ length (lines_of l.text) + 1;
  run : EndsRun 0x20 0x7E l.rest 0 l.run;
  utf8 : shadow (Utf8 l.rest);
}

abbrev pub decreases-lines : goal.decreases-lines
decreases-lines l = length l.rest
