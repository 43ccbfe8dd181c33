use Rattle.std.proofs.Common.{string_bytes}
use Rattle.tabled_text.specs.Lines.{lines_left}
use Rattle.tabview_records.proofs.RecordTexts.{FieldSoFar}
use Rattle.tabview_records.proofs.records.push_field.Given as goal

abbrev pub invariant-loop-index : goal.invariant-loop-index
invariant-loop-index l =
    FieldSoFar l.columns l.name l.value l._index (string_bytes l.fn.out) (string_bytes l.out) (lines_left l.names) (lines_left l.values)
