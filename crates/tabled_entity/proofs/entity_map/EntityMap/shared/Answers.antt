use Rattle.tabled_entity.proofs.Names.{ap, arith, length, length-reverse, reverse, setting_at, sym, ◌<◌, ◌∙◌, ◌≡◌}
use Rattle.tabled_entity.specs.Changes.{shared}
use Rattle.tabled_entity.proofs.Indexed.{nothing_set, parted, unparted}
use Rattle.tabled_entity.proofs.entity_map.EntityMap.shared.Goals as goal

pub returns-then-is_empty : goal.returns-then-is_empty
returns-then-is_empty g c =
    let none : length c.self.inside.changes.items ≡ 0 = grind (arith, c.if-is_empty.true, c.is_empty.ensures, c.self.inside.changes.ok.0) in
    record {
      value = unparted c.self.inside.global c.self.inside.changes.items none ∙ ap shared c.self.view_is;
      everywhere = λ row column. sym
          (nothing_set c.self.inside.global c.self.inside.changes.items row column none ∙ ap (λ v. setting_at v row column) c.self.view_is);
    }

pub returns-else-is_empty-clause-value : goal.returns-else-is_empty-clause-value
returns-else-is_empty-clause-value g c =
    let items = c.self.inside.changes.items in
    let some : 0 < length (reverse items) =
    (let e = length-reverse items in grind (arith, c.if-is_empty.false, c.is_empty.ensures, c.self.inside.changes.ok.0)) in
    parted c.self.inside.global (reverse items) some ∙ ap shared c.self.view_is
