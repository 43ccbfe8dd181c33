use Rattle.tabled_value.proofs.Names.{[], ap, cow_str_bytes, map, map-append, range_with_len, rules, sym, ◌++◌, ◌∙◌, ◌∷◌}
use Rattle.std.proofs.Common.{zero-add, decimal}
use Rattle.std.proofs.lemmas.List.FromFn.{map-range_with_len_more}
use Rattle.tabled_value.proofs.value.tuples.ArrayTabled.headers.Goals as goal

pub places-preserved : goal.places-preserved
places-preserved g c = record {
  texts =
      let place = c.places.place-counter in
      let name = c.in_ok-displayed.field-0 in
      ap (map cow_str_bytes) c.in_ok-push.ensures.items ∙ map-append cow_str_bytes c.places.names.items (name ∷ [])
      ∙ ap (λ names. names ++ cow_str_bytes name ∷ []) c.places.invariant.texts
      ∙ ap (λ text. map decimal (range_with_len 0 place) ++ text ∷ []) c.in_ok-displayed.ensures.text
      ∙ sym (map-range_with_len_more decimal 0 place place (zero-add place));
  length = search rules;
}
