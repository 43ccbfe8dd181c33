use Rattle.tabled_value.proofs.Names.{ap, map, subst, sym, ◌∙◌}
use Rattle.tabled_value.proofs.RowsAdded.{values_long, values_stand}
use Rattle.std.proofs.Common.{◌*◌}
use Rattle.std.specs.List.{AllZip}
use Rattle.tabled_base.specs.Stored.{in_rows}
use Rattle.tabled_value.proofs.rows.value_records.Goals as goal

pub from_cells-requires : goal.from_cells-requires
from_cells-requires g c =
    let ok = c.in_ok-count.ensures.ok in
    values_long g.I.Item.Tabled.shows g.I.Item.Tabled.LENGTH c.in_ok-count.count ok.0 c.new-cells.result.items
    c.push_values.new.cells.items c.new-cells.ensures.items ok.2
    ∙ ap (λ n. c.in_ok-count.count * n) (sym c.length.ensures)

pub returns-clause-ok : goal.returns-clause-ok
returns-clause-ok g c =
    let ok = c.in_ok-count.ensures.ok in
    let stand = values_stand g.I.Item.Tabled.shows g.I.Item.Tabled.LENGTH c.in_ok-count.count ok.0 c.new-cells.result.items
    c.push_values.new.cells.items c.new-cells.ensures.items ok.2 in (
      ok.0,
      record { iterator = c.into_iter.result; made = c.into_iter.ensures.into_iter_gives; drained = ok.1 },
      subst (λ rows. AllZip g.I.Item.Tabled.shows ok.0 rows)
          (sym (c.from_cells.ensures ∙ ap (λ columns. in_rows c.in_ok-count.count columns (map (λ t. t) c.push_values.new.cells.items)) c.length.ensures))
          stand,
    )
