use Rattle.tabled_extended.proofs.Names.{ap, arith, row_texts, ◌∙◌}
use Rattle.tabled_extended.proofs.CopiedRows.{copied-more}
use Rattle.tabled_extended.proofs.extended_table.ExtendedTable.clone.Goals as goal

pub loop-record-preserved : goal.loop-record-preserved
loop-record-preserved g c =
    ap row_texts c.in_ok-push.ensures.items
    ∙ copied-more c.loop-record.records.items c.as_slice-all.result.now c.loop-record.record-index c.record-item.result
    c.in_ok-copied_texts.field-0 (omega arith) c.record-item.is c.loop-record.invariant (c.in_ok-copied_texts.ensures.ok ∙ c.as_slice.ensures.value)
