use Rattle.std.proofs.Common.{[], arith, drop, get_or, get_or-drop, length, length-drop, map, string_bytes, subst, sym, true, ◌+◌, ◌∙◌, ◌≡◌}
use Rattle.tabled_line.proofs.Leading.{break-stopped, line-sent, line-stopped}
use Rattle.tabview_records.proofs.SentRecords.{so_far-all, so_far-more, so_far-none, so_far-short, so_far-stopped}
use Rattle.tabview_records.specs.Records.{IsRecord}
use Rattle.tabview_records.proofs.expanded.print_sheet.Goals as goal

pub loop-index-init : goal.loop-index-init
loop-index-init g c = so_far-none _ _ _ _

pub returns-in_err-text : goal.returns-in_err-text
returns-in_err-text g c =
    let sheet = c.args.sheet.now in
    let long = length-drop sheet.first sheet.rows.now in
    so_far-short c.from_residual.result c.loop-index.invariant (omega (arith, long, c.count_rows.ensures, c.saturating_sub-index-end.ensures)) c.from_residual.ensures.1

pub returns-in_err-write_break : goal.returns-in_err-write_break
returns-in_err-write_break g c =
    let sheet = c.args.sheet.now in
    let long = length-drop sheet.first sheet.rows.now in
    let text = string_bytes c.in_ok-text.text in
    let names = map string_bytes sheet.names.now in
    let index = c.loop-index.index in
    let is = subst (λ row. IsRecord sheet.layout names (index + 1) row text) (sym (get_or-drop sheet.first sheet.rows.now index [])) c.in_ok-text.ensures in
    so_far-stopped true text c.from_residual-in_err-write_break.result _ c.loop-index.invariant
    (omega (arith, long, c.count_rows.ensures, c.saturating_sub-index-end.ensures)) is (break-stopped text c.in_err-write_break.ensures.printed)
    c.from_residual-in_err-write_break.ensures.1

pub returns-in_err-write_text : goal.returns-in_err-write_text
returns-in_err-write_text g c =
    let sheet = c.args.sheet.now in
    let long = length-drop sheet.first sheet.rows.now in
    let text = c.as_str.result.now in
    let names = map string_bytes sheet.names.now in
    let index = c.loop-index.index in
    let is = subst (λ row. IsRecord sheet.layout names (index + 1) row text) (sym (get_or-drop sheet.first sheet.rows.now index []))
    (subst (λ t. IsRecord sheet.layout names (index + 1) (get_or sheet.rows.now (sheet.first + index) []) t) (sym c.as_str.ensures.value) c.in_ok-text.ensures) in
    so_far-stopped true text c.from_residual-in_err-write_text.result _ c.loop-index.invariant
    (omega (arith, long, c.count_rows.ensures, c.saturating_sub-index-end.ensures)) is
    (line-stopped c.in_ok-write_break.ensures.printed c.in_err-write_text.ensures.written)
    c.from_residual-in_err-write_text.ensures.1

pub loop-index-preserved : goal.loop-index-preserved
loop-index-preserved g c =
    let sheet = c.args.sheet.now in
    let long = length-drop sheet.first sheet.rows.now in
    let text = c.as_str.result.now in
    let names = map string_bytes sheet.names.now in
    let index = c.loop-index.index in
    let is = subst (λ row. IsRecord sheet.layout names (index + 1) row text) (sym (get_or-drop sheet.first sheet.rows.now index []))
    (subst (λ t. IsRecord sheet.layout names (index + 1) (get_or sheet.rows.now (sheet.first + index) []) t) (sym c.as_str.ensures.value) c.in_ok-text.ensures) in
    so_far-more text c.loop-index.invariant (omega (arith, long, c.count_rows.ensures, c.saturating_sub-index-end.ensures)) is
    (line-sent c.in_ok-write_break.ensures.printed c.in_ok-write_text.ensures.written c.write_break.ensures.after)

pub returns : goal.returns
returns g c =
    let sheet = c.args.sheet.now in
    let long = length-drop sheet.first sheet.rows.now in
    so_far-all c.loop-index.invariant (omega (arith, long, c.count_rows.ensures, c.saturating_sub-index-end.ensures))
