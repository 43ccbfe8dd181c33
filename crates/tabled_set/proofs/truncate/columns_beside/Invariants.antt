use Rattle.tabled_set.proofs.Names.{lines_left, lines_of, ◌+◌, ◌≡◌}
use Rattle.tabled_set.proofs.JoinedLines.{taken}
use Rattle.tabled_set.proofs.truncate.columns_beside.Given as goal

abbrev pub invariant-loop-line : goal.invariant-loop-line
invariant-loop-line l = l.left + taken (lines_of l.suffix) ≡ l.content_size + taken (lines_left l.line-iterator)
