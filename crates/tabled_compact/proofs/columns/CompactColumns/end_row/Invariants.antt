use Rattle.tabled_compact.proofs.Names.{Bool, List, Sends, Sent, length, min, part_front, ℕ, ◌≡◌}
use Rattle.tabled_compact.proofs.columns.CompactColumns.end_row.Given as goal

abbrev pub invariant-columns : goal.invariant-columns
invariant-columns g l =
    (start : Sent) (begun : Bool) (row : List (List ℕ)) → l.fn.from ≡ min (length row) l.self.count
    → Sends start (g.S.TextSink.sent l.initial.sink) (part_front l.self begun row l.fn.from)
    → Sends start (g.S.TextSink.sent l.sink) (part_front l.self begun row l.column)
