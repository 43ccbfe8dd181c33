use Rattle.std.proofs.Common.{refl, true, ◌≡◌}
use Rattle.tabled_size.specs.Sheet.{estimated}
use Rattle.tabview_print.proofs.Printing.{stopped-printing}
use Rattle.tabview_print.proofs.fitting.print_whole.Goals as goal

pub returns-in_err-print_estimated : goal.returns-in_err-print_estimated
returns-in_err-print_estimated g c =
    let t = estimated c.args.records.now c.args.config.now in
    stopped-printing (λ shown. shown ≡ t) ⊥ t t true (g.S.TextSink.sent c.args.sink.now) c.from_residual.result _ (g.S.TextSink.sent c.print_estimated.new.sink)
    c.from_residual.ensures.1 refl c.in_err-print_estimated.ensures.printed

pub returns : goal.returns
returns g c = record {
  shown = estimated c.args.records.now c.args.config.now;
  is_shown = refl;
  prints = c.in_ok-print_estimated.ensures.printed;
}
