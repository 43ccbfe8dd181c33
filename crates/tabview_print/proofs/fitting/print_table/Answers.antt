use Rattle.std.proofs.Common.{inl}
use Rattle.tabview_print.proofs.Printing.{stopped-early}
use Rattle.tabview_print.specs.PrintedTables.{CannotShow, Shows, whole_table}
use Rattle.tabview_print.proofs.fitting.print_table.Goals as goal

pub returns-in_err-config : goal.returns-in_err-config
returns-in_err-config g c =
    let layout = c.args.layout in
    let t = whole_table layout c.args.records.now in
    stopped-early (Shows layout t) (CannotShow layout t) t (g.S.TextSink.sent c.args.sink.now) c.from_residual.result _ c.from_residual.ensures.1
    (inl c.in_err-config.ensures.only)
