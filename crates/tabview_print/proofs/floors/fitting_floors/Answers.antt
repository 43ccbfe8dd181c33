use Rattle.std.proofs.Common.{ap, arith, length, ◌∙◌}
use Rattle.tabled_size.proofs.Totalling.{widths_length}
use Rattle.tabled_size.specs.Estimates.{estimated_widths}
use Rattle.tabview_print.proofs.FloorLemmas.{floors-length}
use Rattle.tabview_print.proofs.Ranges.{widths-read}
use Rattle.tabview_print.proofs.floors.fitting_floors.Goals as goal

pub column_floors-requires : goal.column_floors-requires
column_floors-requires g c =
    let wide = estimated_widths (g.R.ExactRecords.cells c.args.records.now) c.args.config.now in
    widths-read c.get_widths.result _ c.unwrap_or-widths.result wide (c.get_widths.ensures ∙ c.requires.stored) c.unwrap_or-widths.ensures

pub can_give-requires : goal.can_give-requires
can_give-requires g c =
    let cells = g.R.ExactRecords.cells c.args.records.now in
    let config = c.args.config.now in
    let fit = c.args.fit.now in
    let wide = estimated_widths cells config in
    let read = ap length (widths-read c.get_widths.result _ c.unwrap_or-widths.result wide (c.get_widths.ensures ∙ c.requires.stored) c.unwrap_or-widths.ensures) in
    let own = ap length (c.deref.ensures.value ∙ c.in_ok-floors.ensures.ok) in
    omega (arith, own, read, floors-length fit.columns.now fit.has_header cells config, widths_length cells config)
