use Rattle.tabled_entity.proofs.Names.{Entity, IsIndexed, [], ap, length, reverse, reverse-append, subst, sym, ◌∙◌, ◌∷◌, ◌≡◌}
use Rattle.std.proofs.Common.{◌++◌}
use Rattle.tabled_entity.proofs.Indexed.{indexed-more}
use Rattle.tabled_entity.proofs.entity_map.EntityMap.set_part.Goals as goal

pub invariant_of-self-2 : goal.invariant_of-self-2
invariant_of-self-2 g c =
    let items = c.self.inside.changes.items in
    let change : Entity × g.row.T.Denot = (c.args.entity, c.args.value) in
    let pushed = c.in_ok-push.ensures.items ∙ ap (λ xs. xs ++ change ∷ []) c.in_ok-try_reserve.ensures.items in
    let next = sym (ap reverse pushed ∙ reverse-append items (change ∷ [])) in
    let place : c.len-place.result ≡ length items = c.len-place.ensures ∙ c.self.inside.changes.ok.0 in
    subst (IsIndexed c.insert.new.self) next
    (indexed-more c.self.inside.places c.insert.new.self items change.0 change.1 c.len-place.result c.self.invariant c.in_ok-insert.ensures.ok place)
