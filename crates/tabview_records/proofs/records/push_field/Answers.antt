use Rattle.std.proofs.Common.{ap, string_bytes, ◌++◌, ◌∙◌}
use Rattle.tabled_text.specs.Lines.{lines_left}
use Rattle.tabview_records.proofs.RecordTexts.{field-more}
use Rattle.tabview_records.specs.Records.{pair_line}
use Rattle.tabview_records.proofs.records.push_field.Goals as goal

pub loop-index-preserved : goal.loop-index-preserved
loop-index-preserved c =
    let a = c.next_line.result.now in
    let b = c.next_line-in-loop-index.result.now in
    field-more c.args.columns c.args.name.now c.args.value.now c.loop-index._index (string_bytes c.args.out.now) (string_bytes c.loop-index.out)
    (string_bytes c.push_pair.new.out) (lines_left c.loop-index.names) (lines_left c.loop-index.values) (lines_left c.next_line.new.left)
    (lines_left c.next_line-in-loop-index.new.left) a b c.loop-index.invariant c.next_line.ensures.line c.next_line-in-loop-index.ensures.line
    c.next_line.ensures.rest c.next_line-in-loop-index.ensures.rest
    (c.in_ok-push_pair.ensures ∙ ap (λ o. o ++ pair_line c.args.columns a b) c.in_ok-push_str.ensures.bytes)
