use Rattle.tabled_value.proofs.RowsAdded.{none_added, values_added}
use Rattle.std.proofs.Common.{arith}
use Rattle.tabled_value.proofs.rows.push_values.Goals as goal

pub values-init : goal.values-init
values-init g c = none_added g.I.Item.Tabled.shows g.I.Item.Tabled.LENGTH _

pub values-preserved : goal.values-preserved
values-preserved g c =
    let old = c.values.cells in
    let new = c.push_cells.new.row in
    values_added g.I.Item.Tabled.shows g.I.Item.Tabled.LENGTH c.values.count _ c.values.yielded _ old.items new.items c.in-Some.value
    c.values.invariant c.in_ok-push_cells.ensures.texts (omega (arith, c.in_ok-push_cells.ensures.length, old.ok.0, new.ok.0))
    c.in_ok-count.ensures.ok
