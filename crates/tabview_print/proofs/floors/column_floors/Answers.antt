use Rattle.std.proofs.Common.{[], map, ap, arith, length, min, replicate, ◌+◌, ◌∙◌, ◌≡◌}
use Rattle.std.specs.List.{range_with_len}
use Rattle.tabled_base.specs.Cells.{columns}
use Rattle.tabled_priority.specs.Permitted.{at}
use Rattle.tabled_set.specs.Minimums.{emptied, minimums}
use Rattle.tabled_size.proofs.Totalling.{widths_length}
use Rattle.tabled_size.specs.Estimates.{estimated_widths}
use Rattle.tabled_size.specs.Sheet.{estimated}
use Rattle.tabview_print.proofs.FloorLemmas.{floors-more}
use Rattle.tabview_print.proofs.Printing.{error-only}
use Rattle.tabview_print.proofs.Ranges.{early-emptied}
use Rattle.tabview_print.specs.Floors.{content_floor, floor_of, floors_of, keeps_at}
use Rattle.tabview_print.specs.PrintedTables.{StopsBeforePrinting}
use Rattle.tabview_print.proofs.floors.column_floors.Goals as goal

pub loop-column-preserved : goal.loop-column-preserved
loop-column-preserved g c =
    let cells = g.R.ExactRecords.cells c.args.records.now in
    let config = c.args.config.now in
    let fit = c.args.fit.now in
    let i = c.loop-column.column in
    let e = c.new-empty.result in
    let empty : replicate e.rows (replicate e.columns []) ≡ emptied cells =
    ap (λ n. replicate n (replicate e.columns [])) (c.new-empty.ensures.rows ∙ c.count_rows.ensures)
    ∙ ap (λ n. replicate (length cells) (replicate n [])) (c.new-empty.ensures.columns ∙ c.count_columns.ensures.columns) in
    let mins : c.as_slice-minimums.result.now ≡ minimums cells config =
    c.as_slice-minimums.ensures.value ∙ c.in_ok-list.ensures.ok ∙ ap (λ cs. estimated_widths cs config) empty in
    let low : c.width_at-minimum.result ≡ at (minimums cells config) i = c.width_at-minimum.ensures ∙ ap (λ ws. at ws i) mins in
    let wide : c.width_at-width.result ≡ at (estimated_widths cells config) i = c.width_at-width.ensures ∙ ap (λ ws. at ws i) c.requires in
    let content : c.content_floor-content.result ≡ content_floor fit.has_header (keeps_at fit.columns.now i) cells i =
    c.content_floor-content.ensures ∙ ap (λ k. content_floor fit.has_header k cells i) c.keeps_at-keeps.ensures in
    let here : c.capped_sum-floor.result ≡ floor_of fit.columns.now fit.has_header (estimated cells config) i =
    c.capped_sum-floor.ensures ∙ ap (λ m. min c.width_at-width.result (m + c.content_floor-content.result)) low
    ∙ ap (λ k. min c.width_at-width.result (at (minimums cells config) i + k)) content
    ∙ ap (λ w. min w (at (minimums cells config) i + content_floor fit.has_header (keeps_at fit.columns.now i) cells i)) wide in
    c.in_ok-push.ensures.items
    ∙ floors-more (floor_of fit.columns.now fit.has_header (estimated cells config)) i c.loop-column.floors.items c.capped_sum-floor.result c.loop-column.invariant here

pub returns-in_err-list-clause-only : goal.returns-in_err-list-clause-only
returns-in_err-list-clause-only g c =
    let cells = g.R.ExactRecords.cells c.args.records.now in
    let config = c.args.config.now in
    let e = c.new-empty.result in
    let empty : replicate e.rows (replicate e.columns []) ≡ emptied cells =
    ap (λ n. replicate n (replicate e.columns [])) (c.new-empty.ensures.rows ∙ c.count_rows.ensures)
    ∙ ap (λ n. replicate (length cells) (replicate n [])) (c.new-empty.ensures.columns ∙ c.count_columns.ensures.columns) in
    error-only (StopsBeforePrinting (estimated cells config)) c.from_residual.result _ c.from_residual.ensures.1
    (early-emptied cells config _ (rw empty at c.in_err-list.ensures.err))

pub returns-clause-ok : goal.returns-clause-ok
unfolding floors_of
returns-clause-ok g c =
    let cells = g.R.ExactRecords.cells c.args.records.now in
    let fit = c.args.fit.now in
    let f = floor_of fit.columns.now fit.has_header (estimated cells c.args.config.now) in
    let e = ap length c.requires in
    let all : c.loop-column.column ≡ columns cells = omega (arith, e, widths_length cells c.args.config.now) in
    c.loop-column.invariant ∙ ap (λ n. map f (range_with_len 0 n)) all

pub content_floor-content-requires : goal.content_floor-content-requires
content_floor-content-requires g c =
    let cells = g.R.ExactRecords.cells c.args.records.now in
    let e = ap length c.requires in
    omega (arith, e, widths_length cells c.args.config.now)
