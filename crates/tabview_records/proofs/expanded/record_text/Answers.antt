use Rattle.std.proofs.Common.{[], ap, append-nil, arith, get_or, length, map, refl, string_bytes, subst, sym, true, ◌++◌, ◌<◌, ◌∙◌, ◌≡◌}
use Rattle.std.proofs.lemmas.List.{get_or-map, length-map}
use Rattle.tabled_base.specs.Cells.{columns}
use Rattle.tabled_line.specs.Leading.{lines_after}
use Rattle.tabview_records.proofs.RecordTexts.{fields-all, fields-more, fields-none}
use Rattle.tabview_records.specs.Narrowed.{IsNarrowedText}
use Rattle.tabview_records.specs.Records.{field_lines}
use Rattle.tabview_records.proofs.expanded.record_text.Goals as goal

pub get_text-value-requires : goal.get_text-value-requires
get_text-value-requires c = record {
  row_in = c.requires.inside;
  column_in = omega (arith, c.count_columns-column-end.ensures.columns);
}

pub loop-column-init : goal.loop-column-init
loop-column-init c =
    let head = c.in_ok-push_head.ensures in
    fields-none c.args.sheet.now.layout (map string_bytes c.args.sheet.now.names.now) c.args.number (get_or c.args.sheet.now.rows.now c.args.row [])
    head.0 (string_bytes c.push_head.new.out) head.1 (head.2 ∙ ap (λ o. o ++ head.0) c.new-text.ensures.bytes)

pub loop-column-preserved : goal.loop-column-preserved
loop-column-preserved c =
    let sheet = c.args.sheet.now in
    let layout = sheet.layout in
    let i = c.loop-column.column in
    let names = map string_bytes sheet.names.now in
    let row = get_or sheet.rows.now c.args.row [] in
    let shown = string_bytes c.in_ok-shown.shown in
    let many = c.count_columns-column-end.ensures.columns in
    let long : i < length sheet.names.now = omega (arith, many, c.requires.long) in
    let wide : length row ≡ columns sheet.rows.now = c.count_columns-column-end.ensures.rectangular c.args.row [] c.requires.inside in
    let name : c.as_str.result.now ≡ get_or names i [] =
    c.as_str.ensures.value ∙ sym (get_or-map string_bytes sheet.names.now i c.index-sheet-column.result [] long) in
    let value : c.as_str-in-loop-column.result.now ≡ shown = c.as_str-in-loop-column.ensures.value in
    let narrowed : IsNarrowedText layout.cuts layout.values (get_or row i []) shown =
    subst (λ t. IsNarrowedText layout.cuts layout.values t shown) c.get_text-value.ensures c.in_ok-shown.ensures in
    fields-more layout names c.args.number row i (string_bytes c.loop-column.text) (string_bytes c.push_field.new.out) shown c.loop-column.invariant
    (omega (arith, long, length-map sheet.names.now string_bytes)) (omega (arith, many, wide)) narrowed
    (c.in_ok-push_field.ensures
    ∙ ap (λ t. string_bytes c.loop-column.text ++ lines_after true (field_lines layout.names t c.as_str-in-loop-column.result.now)) name
    ∙ ap (λ t. string_bytes c.loop-column.text ++ lines_after true (field_lines layout.names (get_or names i []) t)) value)

pub returns : goal.returns
returns c =
    let sheet = c.args.sheet.now in
    let names = map string_bytes sheet.names.now in
    let row = get_or sheet.rows.now c.args.row [] in
    let many = c.count_columns-column-end.ensures.columns in
    let wide : length row ≡ columns sheet.rows.now = c.count_columns-column-end.ensures.rectangular c.args.row [] c.requires.inside in
    fields-all sheet.layout names c.args.number row c.loop-column.column (string_bytes c.loop-column.text) c.loop-column.invariant
    (omega (arith, many, c.requires.long, length-map sheet.names.now string_bytes)) (omega (arith, many, wide))
