use Rattle.tabled_extended.proofs.MadeRows.{made-more}
use Rattle.tabled_extended.proofs.extended_table.ExtendedTable+RecordTemplate.new.Goals as goal

pub values-preserved : goal.values-preserved
values-preserved g c =
    made-more c.values.records.items c.push.new.self.items c.in_ok-escaped_texts.field-0 c.values.invariant
    c.in_ok-push.ensures.items c.in_ok-fields-2.ensures.texts c.in_ok-escaped_texts.ensures
