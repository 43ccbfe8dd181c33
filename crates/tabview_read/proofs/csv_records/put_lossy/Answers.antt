use Rattle.std.proofs.Common.{◌∙◌}
use Rattle.tabview_read.proofs.CsvRecords.{lossy-all, lossy-more}
use Rattle.tabview_read.proofs.csv_records.put_lossy.Goals as goal

pub loop-field-preserved : goal.loop-field-preserved
loop-field-preserved c =
    let i = c.loop-field.invariant in
    let s = c.in-Some.ensures.steps in
    lossy-more _ c.loop-field.field-iterator c.next.new.self _ _ c.in-Some.field.now c.deref.result.now i.0 s.0 s.1 s.2 i.1 (c.deref.ensures ∙ c.in_ok-from_utf8_lossy.ensures.lossy) c.in_ok-push_field.ensures.fields

pub returns : goal.returns
returns c =
    let i = c.loop-field.invariant in
    let s = c.in-None.ensures.steps in
    lossy-all _ c.loop-field.field-iterator _ i.0 s.1 i.1
