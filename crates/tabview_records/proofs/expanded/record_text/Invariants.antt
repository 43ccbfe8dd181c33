use Rattle.std.proofs.Common.{[], get_or, map, string_bytes}
use Rattle.tabview_records.proofs.RecordTexts.{FieldsSoFar}
use Rattle.tabview_records.proofs.expanded.record_text.Given as goal

abbrev pub invariant-loop-column : goal.invariant-loop-column
invariant-loop-column l =
    FieldsSoFar l.sheet.layout (map string_bytes l.sheet.names.now) l.number (get_or l.sheet.rows.now l.row []) l.column (string_bytes l.text)
