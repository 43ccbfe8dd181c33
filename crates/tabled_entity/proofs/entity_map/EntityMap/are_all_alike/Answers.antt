use Rattle.tabled_entity.proofs.Names.{ap, reverse, setting_at, sym, ◌∙◌}
use Rattle.tabled_entity.proofs.Indexed.{alike-found}
use Rattle.tabled_entity.proofs.entity_map.EntityMap.are_all_alike.Goals as goal

-- rows with the same latest places have the same settings
pub returns : goal.returns
returns g c = λ yes row other column.
    let inside = c.self.inside in
    sym (ap (λ v. setting_at v row column) c.self.view_is)
    ∙ (alike-found inside.global inside.places (reverse inside.changes.items) row other column c.self.invariant
    (c.are_all_alike.ensures yes row other column) ∙ ap (λ v. setting_at v other column) c.self.view_is)
