use Rattle.std.proofs.Common.{◌≡◌, ℕ, List, ◌++◌, map}
use Rattle.std.specs.VecDeque.{deque_len}
use Rattle.tabview_read.specs.Sheets.{HasLines, Line, row_line}
use Rattle.tabview_read.specs.declared.row.Row.{Row}
use Rattle.tabview_read.specs.declared.sheet.Wanted.{Wanted}
use Rattle.tabview_read.proofs.sheet.Collector.write_rows.Given as goal

abbrev pub invariant-loop-number : goal.invariant-loop-number
invariant-loop-number l = (done : List (ℕ × Row)) × (l.initial.rows.items ≡ done ++ l.rows.items)
    × ((w : Wanted) (lines : List Line) → HasLines w lines l.initial.self → HasLines w (lines ++ map (row_line w.null.now) done) l.self)

abbrev pub decreases-loop-number : goal.decreases-loop-number
decreases-loop-number l = deque_len l.rows
