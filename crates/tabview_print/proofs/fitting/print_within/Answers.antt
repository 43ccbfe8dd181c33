use Rattle.std.proofs.Common.{not, subst, unwrap_or, ◌<◌}
use Rattle.tabled_size.specs.Effective.{effective}
use Rattle.tabled_size.specs.Sheet.{estimated}
use Rattle.tabled_size.specs.Stored.{is_stored}
use Rattle.tabled_size.specs.Totals.{total_width}
use Rattle.tabview_print.proofs.FittedTables.{shows-fitted}
use Rattle.tabview_print.proofs.Printing.{lent-or, sent-cells, stopped-cells, stopped-early}
use Rattle.tabview_print.specs.Fitted.{IsTooNarrow, ShowsWithin}
use Rattle.tabview_print.proofs.fitting.print_within.Goals as goal

pub returns-in_err-total : goal.returns-in_err-total
returns-in_err-total g c =
    let fit = c.args.fit.now in
    let t = estimated c.args.records.now c.args.config.now in
    stopped-early (ShowsWithin fit.columns.now fit.has_header fit.narrowing fit.width t) (IsTooNarrow fit.columns.now fit.has_header fit.width t) t
    (g.S.TextSink.sent c.args.sink.now) c.from_residual.result _ c.from_residual.ensures.1 c.in_err-total.ensures.only

pub returns-in_err-found : goal.returns-in_err-found
returns-in_err-found g c =
    let fit = c.args.fit.now in
    let t = estimated c.args.records.now c.args.config.now in
    stopped-early (ShowsWithin fit.columns.now fit.has_header fit.narrowing fit.width t) (IsTooNarrow fit.columns.now fit.has_header fit.width t) t
    (g.S.TextSink.sent c.args.sink.now) c.from_residual-in_err-found.result _ c.from_residual-in_err-found.ensures.1 c.in_err-found.ensures.only

pub returns-in_err-cells : goal.returns-in_err-cells
returns-in_err-cells g c =
    let fit = c.args.fit.now in
    let t = estimated c.args.records.now c.args.config.now in
    stopped-early (ShowsWithin fit.columns.now fit.has_header fit.narrowing fit.width t) (IsTooNarrow fit.columns.now fit.has_header fit.width t) t
    (g.S.TextSink.sent c.args.sink.now) c.from_residual-in_err-cells.result _ c.from_residual-in_err-cells.ensures.1 c.in_err-cells.ensures.only

pub returns-in_err-print_standing : goal.returns-in_err-print_standing
returns-in_err-print_standing g c =
    let fit = c.args.fit.now in
    let config = c.args.config.now in
    let t = estimated c.args.records.now config in
    let cells = unwrap_or c.in_ok-cells.cells c.args.records.now in
    let sizes = c.narrowed.new.sizes in
    let same = lent-or c.as_ref.result _ c.unwrap_or.result c.in_ok-cells.cells c.as_ref.ensures.value c.unwrap_or.ensures in
    let wide : fit.width < total_width t = subst (λ k. fit.width < k) c.in_ok-total.ensures.total c.if-total-fit.false in
    stopped-cells (ShowsWithin fit.columns.now fit.has_header fit.narrowing fit.width t) (IsTooNarrow fit.columns.now fit.has_header fit.width t) t
    (not (is_stored sizes)) config sizes c.unwrap_or.result.now cells (g.S.TextSink.sent c.args.sink.now) (g.S.TextSink.sent c.print_standing.new.sink) same
    (shows-fitted fit.columns.now fit.has_header fit.narrowing fit.width t (effective cells config sizes) wide c.in_ok-cells.ensures.ok)
    c.from_residual-in_err-print_standing.result _ c.from_residual-in_err-print_standing.ensures.1 c.in_err-print_standing.ensures

pub returns : goal.returns
returns g c =
    let fit = c.args.fit.now in
    let config = c.args.config.now in
    let t = estimated c.args.records.now config in
    let cells = unwrap_or c.in_ok-cells.cells c.args.records.now in
    let sizes = c.narrowed.new.sizes in
    let same = lent-or c.as_ref.result _ c.unwrap_or.result c.in_ok-cells.cells c.as_ref.ensures.value c.unwrap_or.ensures in
    let wide : fit.width < total_width t = subst (λ k. fit.width < k) c.in_ok-total.ensures.total c.if-total-fit.false in
    sent-cells (ShowsWithin fit.columns.now fit.has_header fit.narrowing fit.width t) (IsTooNarrow fit.columns.now fit.has_header fit.width t) t
    (not (is_stored sizes)) config sizes c.unwrap_or.result.now cells (g.S.TextSink.sent c.args.sink.now) (g.S.TextSink.sent c.print_standing.new.sink) same
    (shows-fitted fit.columns.now fit.has_header fit.narrowing fit.width t (effective cells config sizes) wide c.in_ok-cells.ensures.ok)
    c.in_ok-print_standing.ensures
