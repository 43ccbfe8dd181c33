use Rattle.tabled_value.proofs.Names.{ap, cow_str_bytes, map, pairs, row_texts, rules, ◌++◌, ◌∙◌, ◌≡◌}
use Rattle.tabled_value.proofs.FieldRows.{fields_added, rectangular_fields}
use Rattle.tabled_value.proofs.rows.field_records.Goals as goal

pub values-preserved : goal.values-preserved
values-preserved g c =
    let old = row_texts c.values.rows.items in
    let texts = map cow_str_bytes c.in_ok-texts.texts.items in
    let names : map cow_str_bytes c.as_slice.result.now ≡ g.I.Item.Tabled.names = search rules in
    fields_added g.I.Item.Tabled.shows g.I.Item.Tabled.names c.values.yielded old _ c.in-Some.value texts c.values.invariant
    c.in_ok-texts.ensures.texts (c.in_ok-push_fields.ensures.ok ∙ ap (λ u. old ++ pairs u texts) names)

pub new-requires : goal.new-requires
new-requires g c = rectangular_fields g.I.Item.Tabled.shows g.I.Item.Tabled.names c.values.yielded _ c.values.invariant
