use Rattle.tabled_extended.proofs.Names.{List, [], ap, arith, get_or, lines-finished, record_lines, refl, row_texts, ℕ}
use Rattle.std.proofs.lemmas.Grind.{common_steps}
use Rattle.tabled_line.proofs.Leading.{lines-stopped-first}
use Rattle.tabled_extended.proofs.Records.{record-printed}
use Rattle.tabled_extended.proofs.printing.write_record.Goals as goal

pub returns-in_err-write_header : goal.returns-in_err-write_header
returns-in_err-write_header g c =
    let w = c.args.widths in
    let t = c.args.table.now in
    let lines = λ (label : List ℕ). record_lines w.field w.value t.fields.items label
    (get_or (row_texts t.records.items) c.args.index []) in
    record-printed _ _ _ _ _ c.from_residual-in_err-write_header.result _ (lines c.as_str.result.now) c.in_ok-label.ensures.text
    (lines-stopped-first _ _ _ _ _ c.in_err-write_header.ensures c.from_residual-in_err-write_header.ensures.1 refl)
    (ap lines c.as_str.ensures.value)

pub returns : goal.returns
returns g c =
    record-printed _ _ _ _ _ c.write_value_lines.result _ _ c.in_ok-label.ensures.text
    (lines-finished _ _ _ _ _ c.in_ok-write_header.ensures c.write_value_lines.ensures refl) (grind (arith, common_steps))
