use Rattle.tabled_set.proofs.Names.{filled_line, lines_left, map, string_bytes, ◌++◌, ◌≡◌}
use Rattle.tabled_set.specs.TextLines.{filled}
use Rattle.tabled_set.proofs.JoinedLines.{appended}
use Rattle.tabled_set.proofs.min_width.FillingTextTransform.apply.Given as goal

-- with the lines that are left, filled up, the answer is whole
abbrev pub invariant-loop-line : goal.invariant-loop-line
invariant-loop-line l =
    string_bytes l.out ++ appended l.begun (map (filled_line l.self.fill l.content_size) (lines_left l.line-iterator)) ≡ filled l.self.fill l.content_size l.text
