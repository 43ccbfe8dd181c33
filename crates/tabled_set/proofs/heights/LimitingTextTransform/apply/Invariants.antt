use Rattle.tabled_set.proofs.Names.{lines_left, nat_lt, string_bytes, take, ◌++◌, ◌≡◌, ◌≤◌}
use Rattle.tabled_set.specs.TextLines.{limited}
use Rattle.tabled_set.proofs.JoinedLines.{appended}
use Rattle.tabled_set.proofs.heights.LimitingTextTransform.apply.Given as goal

-- with the first lines that are left, the answer is whole
abbrev pub invariant-loop-line : goal.invariant-loop-line
invariant-loop-line l =
    (string_bytes l.out ++ appended (nat_lt l.left l.content_size) (take l.left (lines_left l.line-iterator)) ≡ limited l.content_size l.text) × (l.left ≤ l.content_size)
