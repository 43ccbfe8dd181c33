use Rattle.std.proofs.Common.{drop, map, string_bytes}
use Rattle.tabview_records.proofs.SentRecords.{SentSoFar}
use Rattle.tabview_records.proofs.expanded.print_sheet.Given as goal

abbrev pub invariant-loop-index : goal.invariant-loop-index
invariant-loop-index g l =
    SentSoFar l.sheet.layout (map string_bytes l.sheet.names.now) (drop l.sheet.first l.sheet.rows.now) l.index
    (g.S.TextSink.sent l.initial.sink) (g.S.TextSink.sent l.sink) l.begun
