use Rattle.std.proofs.Common.{[], ap, length, subst, true, ◌-◌, ◌∙◌, ◌≡◌}
use Rattle.tabled_priority.specs.Permitted.{at}
use Rattle.tabled_set.specs.CellChanges.{AreChanged}
use Rattle.tabled_set.specs.Minimums.{side_padding}
use Rattle.tabled_size.specs.Estimates.{estimated_widths}
use Rattle.tabview_cells.specs.Fitted.{GivesToFloors}
use Rattle.tabview_print.proofs.Ranges.{widths-read}
use Rattle.tabview_print.specs.Fitted.{narrowing}
use Rattle.tabview_print.specs.declared.layout.Narrowing.TheVariants.{Cut}
use Rattle.tabview_print.proofs.fitting.cut.Goals as goal

pub returns-clause-ok : goal.returns-clause-ok
returns-clause-ok c =
    let wide = estimated_widths c.args.records.now c.args.config.now in
    let read : c.unwrap_or.result.now ≡ wide = widths-read c.get_widths.result _ c.unwrap_or.result wide (c.get_widths.ensures ∙ c.requires) c.unwrap_or.ensures in
    let floors = c.args.floors.now in
    record {
      widths = c.in_ok-widths.widths.items;
      long = c.in_ok-widths.ensures.0 ∙ ap length read;
      gives = subst (λ ws. GivesToFloors floors.widths.items ws [] floors.excess c.in_ok-widths.widths.items) read c.in_ok-widths.ensures.1;
      stored = c.clear_height.ensures.widths ∙ c.set_widths.ensures.widths;
      cleared = c.clear_height.ensures.heights;
      changed = subst (λ ws. AreChanged (λ row column. true) (λ row column. narrowing Cut (at ws column - side_padding c.args.config.now row column)) c.args.records.now c.in_ok-cells.cells)
          c.as_slice.ensures.value c.in_ok-cells.ensures.ok;
    }
