use Rattle.tabled_entity.proofs.Names.{ap, arith, setting_at, value_of, ◌∙◌}
use Rattle.tabled_entity.specs.RowChanges.{latest_at}
use Rattle.tabled_entity.proofs.Indexed.{nothing_set, value_of-latest}
use Rattle.tabled_entity.proofs.entity_map.EntityMap.in_row.Goals as goal

pub returns-then-is_empty : goal.returns-then-is_empty
returns-then-is_empty g c = λ column.
    nothing_set c.self.inside.global c.self.inside.changes.items c.args.row column
    (grind (arith, c.if-is_empty.true, c.is_empty.ensures, c.self.inside.changes.ok.0))
    ∙ ap (λ v. setting_at v c.args.row column) c.self.view_is

pub returns : goal.returns
returns g c = λ column.
    let inside = c.self.inside in
    let place = latest_at c.in_row.result column in
    c.new.ensures column
    ∙ ap (λ items. value_of inside.global items place) c.deref.ensures.value
    ∙ value_of-latest inside.global inside.places inside.changes.items c.args.row column place c.self.invariant (c.in_row.ensures column)
    ∙ ap (λ v. setting_at v c.args.row column) c.self.view_is
