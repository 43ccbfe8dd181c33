use Rattle.std.proofs.Common.{[], ap, map, string_bytes, ◌+◌, ◌∙◌, ◌∷◌}
use Rattle.std.proofs.lemmas.List.{map-append}
use Rattle.std.specs.Prelude.{decimal}
use Rattle.tabview_records.proofs.RecordTexts.{range-more}
use Rattle.tabview_records.proofs.rows.column_numbers.Goals as goal

pub loop-column-preserved : goal.loop-column-preserved
loop-column-preserved c =
    let xs = c.loop-column.numbers.items in
    let x = c.in_ok-format.field-0 in
    ap (map string_bytes) c.in_ok-push.ensures.items
    ∙ map-append string_bytes xs (x ∷ [])
    ∙ range-more (λ k. decimal (k + 1)) c.loop-column.column (map string_bytes xs) (string_bytes x) c.loop-column.invariant c.in_ok-format.ensures.ok
