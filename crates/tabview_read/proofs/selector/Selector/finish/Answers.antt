use Rattle.std.proofs.Common.{◌∙◌, ap, ◌-◌}
use Rattle.tabview_read.proofs.Lines.{HasRows-all, ShowsRows-from}
use Rattle.tabview_read.proofs.selector.Selector.finish.Goals as goal

pub returns : goal.returns
returns c = λ w names rows has.
    let self = c.args.self in
    let written = c.write_rows.new.self in
    ShowsRows-from w names rows self written _ has (HasRows-all w names rows self written has c.in_ok-write_rows.ensures)
    c.finish.ensures.records c.finish.ensures.columns c.finish.ensures.has_names
    (c.finish.ensures.hidden ∙ c.saturating_sub-hidden.ensures ∙ ap (λ n. self.count - n) (c.count_shown.ensures w names rows has))
