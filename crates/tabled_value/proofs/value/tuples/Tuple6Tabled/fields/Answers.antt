use Rattle.tabled_value.proofs.Names.{cow_str_bytes, map}
use Rattle.tabled_value.proofs.Joining.{joined_fields, joined_of}
use Rattle.tabled_value.proofs.value.tuples.Tuple6Tabled.fields.Goals as goal

pub returns-clause-texts : goal.returns-clause-texts
returns-clause-texts g c =
    joined_fields _ _ _ _ (λ v. map cow_str_bytes v.items) c.joined-5.result c.joined-5.ensures.ok c.in_ok-fields-6.ensures.texts
    (joined_of _ _ c.in_ok-rest-4.ensures.ok c.in_ok-fields-5.ensures.texts
    (joined_of _ _ c.in_ok-rest-3.ensures.ok c.in_ok-fields-4.ensures.texts
    (joined_of _ _ c.in_ok-rest-2.ensures.ok c.in_ok-fields-3.ensures.texts
    (joined_of _ _ c.in_ok-rest.ensures.ok c.in_ok-fields.ensures.texts c.in_ok-fields-2.ensures.texts))))
