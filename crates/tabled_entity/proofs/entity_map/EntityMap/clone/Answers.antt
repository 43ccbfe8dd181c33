use Rattle.tabled_entity.proofs.Names.{IsIndexed, reverse, subst, sym, ◌∙◌}
use Rattle.tabled_entity.proofs.entity_map.EntityMap.clone.Goals as goal

pub invariant_of-result : goal.invariant_of-result
invariant_of-result g c =
    subst (λ xs. IsIndexed c.in_ok-index_of.field-0 (reverse xs))
    (c.deref-2.ensures.value ∙ sym (c.in_ok-from_slice.ensures.items ∙ c.deref.ensures.value)) c.in_ok-index_of.ensures
