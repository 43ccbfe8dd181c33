use Rattle.tabled_text.proofs.Names.{chars, fits_line, lines_left, lines_of, list_all, map, ◌≡◌}
use Rattle.tabled_text.proofs.fewest_lines.units_fit.Given as goal

abbrev pub invariant-loop-line : goal.invariant-loop-line
invariant-loop-line l =
    list_all (fits_line l.n l.words) (map chars (lines_left l.line-iterator)) ≡ list_all (fits_line l.n l.words) (lines_of (chars l.text))
