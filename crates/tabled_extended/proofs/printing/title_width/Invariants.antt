use Rattle.tabled_extended.proofs.Names.{All, length, lines_left, max, text_columns, title, ◌≡◌, ◌≤◌}
use Rattle.tabled_extended.proofs.Dashed.{columns_dashed}
use Rattle.tabled_extended.proofs.printing.title_width.Given as goal

abbrev pub invariant-lines : goal.invariant-lines
invariant-lines l = record {
  value : max l.widest (columns_dashed l.before l.last (lines_left l.line-iterator)) ≡ text_columns (title l.label);
  before : l.before ≤ 1;
  short : All (λ line. length line ≤ length l.label) (lines_left l.line-iterator);
}
