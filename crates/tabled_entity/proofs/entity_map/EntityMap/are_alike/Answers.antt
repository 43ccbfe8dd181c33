use Rattle.tabled_entity.proofs.Names.{ap, arith, length, reverse, setting_at, sym, ◌∙◌, ◌≡◌}
use Rattle.tabled_entity.proofs.Indexed.{alike-found, nothing_set}
use Rattle.tabled_entity.proofs.entity_map.EntityMap.are_alike.Goals as goal

pub returns-then-is_empty : goal.returns-then-is_empty
returns-then-is_empty g c = λ _ column.
    let inside = c.self.inside in
    let none : length inside.changes.items ≡ 0 = grind (arith, c.if-is_empty.true, c.is_empty.ensures, inside.changes.ok.0) in
    sym (nothing_set inside.global inside.changes.items c.args.row column none ∙ ap (λ v. setting_at v c.args.row column) c.self.view_is)
    ∙ (nothing_set inside.global inside.changes.items c.args.other column none ∙ ap (λ v. setting_at v c.args.other column) c.self.view_is)

pub returns-then-is_plain : goal.returns-then-is_plain
returns-then-is_plain g c = λ yes column.
    let inside = c.self.inside in
    let same = c.is_plain.ensures c.if-is_plain.true column ∙ sym (c.is_plain-then-is_plain.ensures yes column) in
    sym (ap (λ v. setting_at v c.args.row column) c.self.view_is)
    ∙ (alike-found inside.global inside.places (reverse inside.changes.items) c.args.row c.args.other column c.self.invariant
    same ∙ ap (λ v. setting_at v c.args.other column) c.self.view_is)
