use Rattle.std.proofs.Common.{Err, Ok, ap, drop, length, map, string_bytes, subst, ◌∙◌, ◌≡◌}
use Rattle.std.specs.List.{AllZip}
use Rattle.tabview_records.proofs.PrintedRecords.{can-so, cannot-so, laid-as, name_needs, printed-err, printed-named, shown-long, stopped-short, stopped-unlaid, value_needs}
use Rattle.tabview_records.specs.Expanded.{PrintsSheet}
use Rattle.tabview_records.specs.Narrowed.{IsNarrowedText}
use Rattle.tabview_records.specs.Records.{widest, widest_cell}
use Rattle.tabview_records.proofs.expanded.print_expanded.Goals as goal

pub returns-in_err-names : goal.returns-in_err-names
returns-in_err-names g c = stopped-short c.args.options c.args.records.now (g.S.TextSink.sent c.args.sink.now) c.from_residual.result c.from_residual.ensures.1

pub returns-in_err-layout : goal.returns-in_err-layout
returns-in_err-layout g c =
    let options = c.args.options in
    let cells = c.args.records.now in
    let name : c.widest_name-widest.result ≡ name_needs options cells =
    c.widest_name-widest.ensures ∙ ap (λ xs. widest (map string_bytes xs)) c.as_slice.ensures.value ∙ ap widest c.in_ok-names.ensures in
    let value : c.widest_cell.result ≡ value_needs options cells = c.widest_cell.ensures ∙ ap (λ k. widest_cell (drop k cells)) c.first_record-first.ensures in
    stopped-unlaid options cells (g.S.TextSink.sent c.args.sink.now) c.from_residual-in_err-layout.result c.in_err-layout.field-0.0
    (cannot-so options cells c.widest_name-widest.result c.widest_cell.result c.in_err-layout.field-0.0 name value c.in_err-layout.ensures.err)
    c.from_residual-in_err-layout.ensures.1

pub returns-in_err-shown : goal.returns-in_err-shown
returns-in_err-shown g c =
    stopped-short c.args.options c.args.records.now (g.S.TextSink.sent c.args.sink.now) c.from_residual-in_err-shown.result c.from_residual-in_err-shown.ensures.1

pub returns-in_err-print_sheet : goal.returns-in_err-print_sheet
returns-in_err-print_sheet g c =
    let options = c.args.options in
    let cells = c.args.records.now in
    let layout = c.in_ok-layout.layout in
    let old = g.S.TextSink.sent c.args.sink.now in
    let new = g.S.TextSink.sent c.print_sheet.new.sink in
    let e = c.in_err-print_sheet.field-0.0 in
    let name : c.widest_name-widest.result ≡ name_needs options cells =
    c.widest_name-widest.ensures ∙ ap (λ xs. widest (map string_bytes xs)) c.as_slice.ensures.value ∙ ap widest c.in_ok-names.ensures in
    let value : c.widest_cell.result ≡ value_needs options cells = c.widest_cell.ensures ∙ ap (λ k. widest_cell (drop k cells)) c.first_record-first.ensures in
    let narrowed = subst (λ xs. AllZip (IsNarrowedText layout.cuts layout.names) (map string_bytes xs) (map string_bytes c.in_ok-shown.shown.items)) c.as_slice-2.ensures.value
    c.in_ok-shown.ensures in
    let sheet = subst (λ k. PrintsSheet {T = Unit {0}} layout (map string_bytes c.in_ok-shown.shown.items) (drop k cells) old (Err e) new) c.first_record-first.ensures
    (subst (λ xs. PrintsSheet {T = Unit {0}} layout (map string_bytes xs) (drop c.first_record-first.result cells) old (Err e) new) c.as_slice-3.ensures.value
    c.in_err-print_sheet.ensures) in
    printed-err options cells old c.from_residual-in_err-print_sheet.result e new
    (printed-named options cells layout c.in_ok-names.names.items c.in_ok-shown.shown.items old (Err e) new c.in_ok-names.ensures
    (can-so options cells _ _ name value c.in_ok-layout.ensures.ok.0) (laid-as options cells layout _ _ name value c.in_ok-layout.ensures.ok.1) narrowed sheet)
    c.from_residual-in_err-print_sheet.ensures.1

pub returns : goal.returns
returns g c =
    let options = c.args.options in
    let cells = c.args.records.now in
    let layout = c.in_ok-layout.layout in
    let old = g.S.TextSink.sent c.args.sink.now in
    let new = g.S.TextSink.sent c.print_sheet.new.sink in
    let name : c.widest_name-widest.result ≡ name_needs options cells =
    c.widest_name-widest.ensures ∙ ap (λ xs. widest (map string_bytes xs)) c.as_slice.ensures.value ∙ ap widest c.in_ok-names.ensures in
    let value : c.widest_cell.result ≡ value_needs options cells = c.widest_cell.ensures ∙ ap (λ k. widest_cell (drop k cells)) c.first_record-first.ensures in
    let narrowed = subst (λ xs. AllZip (IsNarrowedText layout.cuts layout.names) (map string_bytes xs) (map string_bytes c.in_ok-shown.shown.items)) c.as_slice-2.ensures.value
    c.in_ok-shown.ensures in
    let sheet = subst (λ k. PrintsSheet {T = Unit {0}} layout (map string_bytes c.in_ok-shown.shown.items) (drop k cells) old (Ok tt) new) c.first_record-first.ensures
    (subst (λ xs. PrintsSheet {T = Unit {0}} layout (map string_bytes xs) (drop c.first_record-first.result cells) old (Ok tt) new) c.as_slice-3.ensures.value
    c.in_ok-print_sheet.ensures) in
    printed-named options cells layout c.in_ok-names.names.items c.in_ok-shown.shown.items old (Ok tt) new c.in_ok-names.ensures
    (can-so options cells _ _ name value c.in_ok-layout.ensures.ok.0) (laid-as options cells layout _ _ name value c.in_ok-layout.ensures.ok.1) narrowed sheet

pub print_sheet-requires-clause-long : goal.print_sheet-requires-clause-long
print_sheet-requires-clause-long g c =
    let cells = c.args.records.now in
    let layout = c.in_ok-layout.layout in
    let narrowed = subst (λ xs. AllZip (IsNarrowedText layout.cuts layout.names) (map string_bytes xs) (map string_bytes c.in_ok-shown.shown.items)) c.as_slice-2.ensures.value
    c.in_ok-shown.ensures in
    ap length c.as_slice-3.ensures.value
    ∙ shown-long c.args.options.has_header cells layout c.in_ok-names.names.items c.in_ok-shown.shown.items c.in_ok-names.ensures narrowed
