use Rattle.std.proofs.Common.{◌≡◌, map, max}
use Rattle.tabled_text.specs.Lines.{lines_left}
use Rattle.tabled_text.specs.Measure.{greatest, lines_of}
use Rattle.tabview_cells.specs.Words.{longest_in_line}
use Rattle.tabview_cells.proofs.fit.longest_word.Given as goal

abbrev pub invariant-loop-line : goal.invariant-loop-line
invariant-loop-line l =
    max l.most (greatest (map longest_in_line (lines_left l.line-iterator))) ≡ greatest (map longest_in_line (lines_of l.text))
