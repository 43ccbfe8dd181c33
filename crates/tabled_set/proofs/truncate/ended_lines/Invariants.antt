use Rattle.tabled_set.proofs.Names.{AllZip, HasEndedLines, IsEnded, List, cow_str_bytes, lines_left, string_bytes, ℕ, ◌++◌}
use Rattle.tabled_set.proofs.JoinedLines.{appended}
use Rattle.tabled_set.proofs.truncate.ended_lines.Given as goal

-- with the lines that are left, ended, the answer is whole
abbrev pub invariant-loop-line : goal.invariant-loop-line
invariant-loop-line l =
    let used = cow_str_bytes l.used.text in
    (rest : List (List ℕ)) → AllZip (IsEnded l.used.left used) (lines_left l.line-iterator) rest
    → HasEndedLines l.used.left used l.text (string_bytes l.answer ++ appended l.begun rest)
