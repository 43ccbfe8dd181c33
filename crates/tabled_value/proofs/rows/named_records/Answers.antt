use Rattle.tabled_value.proofs.Names.{ap, length, map, rules, sym, ◌∙◌, ◌∷◌, ◌≡◌}
use Rattle.tabled_value.proofs.RowsAdded.{named_long, named_stand}
use Rattle.std.proofs.Common.{◌*◌}
use Rattle.tabled_base.specs.Stored.{in_rows}
use Rattle.tabled_value.proofs.rows.named_records.Goals as goal

pub from_cells-requires : goal.from_cells-requires
from_cells-requires g c =
    let ok = c.in_ok-count.ensures.ok in
    let width : c.len-columns.result ≡ g.I.Item.Tabled.LENGTH = search rules in
    let long : length c.push_texts.new.row.items ≡ g.I.Item.Tabled.LENGTH = search rules in
    named_long g.I.Item.Tabled.shows g.I.Item.Tabled.LENGTH c.in_ok-count.count c.in_ok-one_more.field-0 ok.0 c.push_texts.new.row.items
    c.push_values.new.cells.items ok.2 long c.in_ok-one_more.ensures.ok
    ∙ ap (λ n. c.in_ok-one_more.field-0 * n) (sym width)

pub returns-clause-ok : goal.returns-clause-ok
returns-clause-ok g c =
    let ok = c.in_ok-count.ensures.ok in
    let width : c.len-columns.result ≡ g.I.Item.Tabled.LENGTH = search rules in
    let long : length c.push_texts.new.row.items ≡ g.I.Item.Tabled.LENGTH = search rules in
    let names : c.push_texts.new.row.items ≡ g.I.Item.Tabled.names = search rules in
    let stand = named_stand g.I.Item.Tabled.shows g.I.Item.Tabled.LENGTH c.in_ok-count.count c.in_ok-one_more.field-0 ok.0
    c.push_texts.new.row.items c.push_values.new.cells.items ok.2 long c.in_ok-one_more.ensures.ok in (
      ok.0,
      ok.2.rows,
      record { iterator = c.into_iter-values.result; made = c.into_iter-values.ensures.into_iter_gives; drained = ok.1 },
      ok.2.each,
      c.from_cells.ensures
          ∙ ap (λ columns. in_rows c.in_ok-one_more.field-0 columns (map (λ t. t) c.push_values.new.cells.items)) width
          ∙ stand
          ∙ ap (λ n. n ∷ ok.2.rows) names,
    )
